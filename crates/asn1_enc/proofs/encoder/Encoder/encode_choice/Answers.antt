use Rattle.asn1_laws.proofs.WritingSteps.{exits, inside_fails, open_fails, writes_scope}
use Rattle.asn1_enc.proofs.encoder.Encoder.encode_choice.Goals as goal

pub returns-in_err-open_choice-clause-writes : goal.returns-in_err-open_choice-clause-writes
returns-in_err-open_choice-clause-writes g c = rw (← c.chosen_tag.ensures) (exits g.Self.Encoder.writer _ _ _ _ _ c.from_residual.ensures.1 (open_fails g.Self.Encoder.writer _ c.in_err-open_choice.ensures))

pub returns-in_err-encode_alternative-clause-writes : goal.returns-in_err-encode_alternative-clause-writes
returns-in_err-encode_alternative-clause-writes g c = rw (← c.chosen_tag.ensures) (exits g.Self.Encoder.writer _ _ _ _ _ c.from_residual-in_err-encode_alternative.ensures.1 (inside_fails g.Self.Encoder.writer g.met.Self.Encoder.lawful c.in_ok-open_choice.ensures c.in_err-encode_alternative.ensures))

pub returns-clause-writes : goal.returns-clause-writes
returns-clause-writes g c = rw (← c.chosen_tag.ensures) (writes_scope g.Self.Encoder.writer _ _ c.in_ok-open_choice.ensures c.in_ok-encode_alternative.ensures c.close.ensures)
