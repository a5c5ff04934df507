use Rattle.asn1_laws.proofs.WritingSteps.{exits, fails_first, writes_then}
use Rattle.asn1_enc.proofs.optionals.write_present.Goals as goal

pub returns-in_err-mark_present : goal.returns-in_err-mark_present
returns-in_err-mark_present g c = exits g.E.Encoder.writer _ _ _ _ _ c.from_residual.ensures.1 (fails_first g.E.Encoder.writer g.met.E.Encoder.lawful _ c.in_err-mark_present.ensures)

pub returns-in-None : goal.returns-in-None
returns-in-None g c =
    rw c.in-None.is (writes_then g.E.Encoder.writer _ _ _ _ _ g.met.E.Encoder.lawful (λ _ of_type. of_type) c.in_ok-mark_present.ensures c.encode_with_tag_and_identifier.ensures)

pub returns-in-Some : goal.returns-in-Some
returns-in-Some g c =
    rw c.in-Some.is (writes_then g.E.Encoder.writer _ _ _ _ _ g.met.E.Encoder.lawful (λ _ of_type. of_type) c.in_ok-mark_present.ensures c.encode_with_tag_and_constraints.ensures)
