use Rattle.asn1_components.specs.Components.{component_records}
use Rattle.asn1_laws.proofs.WritingSteps.{exits, group_fails, open_group_fails, writes_group}
use Rattle.asn1_enc.proofs.encoder.Encoder.encode_extension_addition_group.Goals as goal

pub returns-in_err-open_group-in-Some : goal.returns-in_err-open_group-in-Some
returns-in_err-open_group-in-Some g c = rw c.in-Some.is (exits g.Self.Encoder.writer _ _ _ _ _ c.from_residual.ensures.1 (open_group_fails g.Self.Encoder.writer (component_records g.C.FieldTable.components c.in-Some.group.now) c.in_err-open_group-in-Some.ensures))

pub returns-in_err-encode_fields-in-Some : goal.returns-in_err-encode_fields-in-Some
returns-in_err-encode_fields-in-Some g c = rw c.in-Some.is (exits g.Self.Encoder.writer _ _ _ _ _ c.from_residual-in_err-encode_fields-in-Some.ensures.1 (group_fails g.Self.Encoder.writer g.met.Self.Encoder.lawful c.in_ok-open_group-in-Some.ensures c.in_err-encode_fields-in-Some.ensures))

pub returns-in_ok-encode_fields-in-Some : goal.returns-in_ok-encode_fields-in-Some
returns-in_ok-encode_fields-in-Some g c = rw c.in-Some.is (writes_group g.Self.Encoder.writer _ _ c.in_ok-open_group-in-Some.ensures c.in_ok-encode_fields-in-Some.ensures c.close_group.ensures)
