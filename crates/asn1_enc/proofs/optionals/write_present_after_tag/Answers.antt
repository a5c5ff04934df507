use Rattle.asn1_laws.proofs.WritingSteps.{exits, fails_first, writes_then}
use Rattle.asn1_enc.proofs.optionals.write_present_after_tag.Goals as goal

pub returns-in_err-mark_present : goal.returns-in_err-mark_present
returns-in_err-mark_present g c = exits g.E.Encoder.writer _ _ _ _ _ c.from_residual.ensures.1 (fails_first g.E.Encoder.writer g.met.E.Encoder.lawful _ c.in_err-mark_present.ensures)

pub returns : goal.returns
returns g c = writes_then g.E.Encoder.writer _ _ _ _ _ g.met.E.Encoder.lawful (λ _ of_type. of_type) c.in_ok-mark_present.ensures c.encode_explicit_prefix.ensures.writes
