use Rattle.std.proofs.lemmas.Result.{MatchResult-weaker}
use Rattle.asn1_ber_items.proofs.Steps.{no_memory}
use Rattle.asn1_ber_items.proofs.walk.Walk.step.Goals as goal

pub returns-in-Some : goal.returns-in-Some
returns-in-Some c = λ consistent.
    MatchResult-weaker c.end_innermost.result (c.end_innermost.ensures c.in-Some.ensures consistent) (λ done goes. goes) (λ e memory. no_memory c.args.self.now e memory)

pub returns-in-None : goal.returns-in-None
returns-in-None c = λ consistent. c.begin_next.ensures c.in-None.ensures consistent
