use Rattle.asn1_laws.proofs.WritingSteps.{exits, inside_fails, open_fails, writes_scope}
use Rattle.asn1_enc.proofs.encoder.Encoder.encode_explicit_prefix.Goals as goal

pub returns-in_err-open_explicit_prefix-clause-writes : goal.returns-in_err-open_explicit_prefix-clause-writes
returns-in_err-open_explicit_prefix-clause-writes g c = exits g.Self.Encoder.writer _ _ _ _ _ c.from_residual.ensures.1 (open_fails g.Self.Encoder.writer _ c.in_err-open_explicit_prefix.ensures)

pub returns-in_err-encode-clause-writes : goal.returns-in_err-encode-clause-writes
returns-in_err-encode-clause-writes g c = exits g.Self.Encoder.writer _ _ _ _ _ c.from_residual-in_err-encode.ensures.1 (inside_fails g.Self.Encoder.writer g.met.Self.Encoder.lawful c.in_ok-open_explicit_prefix.ensures c.in_err-encode.ensures)

pub returns-clause-writes : goal.returns-clause-writes
returns-clause-writes g c = writes_scope g.Self.Encoder.writer _ _ c.in_ok-open_explicit_prefix.ensures c.in_ok-encode.ensures c.close.ensures
