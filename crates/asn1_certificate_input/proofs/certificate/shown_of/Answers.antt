use Rattle.std.proofs.Common.{inr}
use Rattle.std.proofs.lemmas.Result.{IfErr-weaker}
use Rattle.asn1_certificate_input.proofs.certificate.shown_of.Goals as goal

pub returns-clause-refused : goal.returns-clause-refused
returns-clause-refused c = IfErr-weaker c.shown_as.result _ _ (λ _ refuses. inr refuses) c.shown_as.ensures.refused

pub shown_as-requires-clause-read : goal.shown_as-requires-clause-read
shown_as-requires-clause-read c = c.in_ok-read.ensures.read
