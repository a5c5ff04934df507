use Rattle.std.proofs.Common.{◌≤◌, length, arith}
use Rattle.std.proofs.lemmas.List.{take_all}
use Rattle.asn1_components.specs.Components.{all_components}
use Rattle.asn1_components.proofs.TableLengths.{length-table}
use Rattle.asn1_laws.proofs.WritingComponents.{appends_component, fails_at_component}
use Rattle.asn1_laws.proofs.WritingSteps.{appends_none, exits}
use Rattle.asn1_enc.proofs.encode.EncodeFields.encode_fields.Goals as goal

pub loop-index-init : goal.loop-index-init
loop-index-init g c = appends_none g.E.Encoder.writer _ tt

pub loop-index-preserved : goal.loop-index-preserved
loop-index-preserved g c = appends_component g.E.Encoder.writer (all_components g.Self.FieldTable.components) c.loop-index.index c.args.self.now c.loop-index.invariant c.in_ok-encode_field.ensures

pub returns-in_err-encode_field : goal.returns-in_err-encode_field
returns-in_err-encode_field g c =
    exits g.E.Encoder.writer _ _ _ _ _ c.from_residual.ensures.1
    (fails_at_component g.E.Encoder.writer (all_components g.Self.FieldTable.components) c.loop-index.index c.args.self.now g.met.E.Encoder.lawful c.loop-index.invariant c.in_err-encode_field.ensures)

pub returns : goal.returns
returns g c =
    let cs = all_components g.Self.FieldTable.components in
    let at_end : length cs ≤ c.loop-index.index = omega (arith, c.loop-index-test.false, c.loop-index.auto.index-end, c.field_count-index-end.ensures, length-table g.Self.FieldTable.components) in
    rw (take_all c.loop-index.index cs at_end) at c.loop-index.invariant
