use Rattle.asn1_ldap_stream.proofs.Streams.{ReadUpTo}
use Rattle.asn1_rules.specs.Iters.{state}
use Rattle.asn1_ldap_stream.proofs.input.show_pieces.Given as goal

abbrev pub invariant-loop : goal.invariant-loop
invariant-loop g l =
    ReadUpTo g.F.FrontReader.fronts (state l.initial.elements).reader g.M.Rules.format l.messages.depth
    (g.R.Read.remaining l.initial.reader) (g.R.Read.remaining l.reader)
    (state l.elements) (g.W.Write.contents l.initial.writer) (g.W.Write.contents l.writer) l.all_understood
