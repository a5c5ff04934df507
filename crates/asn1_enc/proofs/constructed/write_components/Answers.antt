use Rattle.asn1_laws.proofs.WritingSteps.{exits, inside_fails, open_fails, writes_scope}
use Rattle.asn1_enc.proofs.constructed.write_components.Goals as goal

pub returns-in_err-open-clause-writes : goal.returns-in_err-open-clause-writes
returns-in_err-open-clause-writes g c = exits g.E.Encoder.writer _ _ _ _ _ c.from_residual.ensures.1 (open_fails g.E.Encoder.writer _ c.in_err-open.ensures)

pub returns-in_err-encode_fields-clause-writes : goal.returns-in_err-encode_fields-clause-writes
returns-in_err-encode_fields-clause-writes g c =
    exits g.E.Encoder.writer _ _ _ _ _ c.from_residual-in_err-encode_fields.ensures.1 (inside_fails g.E.Encoder.writer g.met.E.Encoder.lawful c.in_ok-open.ensures c.in_err-encode_fields.ensures)

pub returns-clause-writes : goal.returns-clause-writes
returns-clause-writes g c = writes_scope g.E.Encoder.writer _ _ c.in_ok-open.ensures c.in_ok-encode_fields.ensures c.close.ensures
