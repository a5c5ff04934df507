use Rattle.std.specs.Prelude.{[]}
use Rattle.asn1_ldap_stream.specs.Showing.{Continues}
use Rattle.asn1_rules.specs.Iters.{state}
use Rattle.asn1_ldap_stream.proofs.stream.show_whole.Given as goal

abbrev pub invariant-loop : goal.invariant-loop
invariant-loop g l =
    Continues g.F.FrontReader.fronts (state l.initial.elements).reader g.M.Rules.format l.messages.depth [] (state l.initial.elements) (state l.elements)
    (g.W.Write.contents l.initial.writer) (g.W.Write.contents l.writer) l.initial.all_understood l.all_understood
