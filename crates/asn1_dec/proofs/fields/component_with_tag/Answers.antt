use Rattle.std.proofs.Common.{arith, sym}
use Rattle.asn1_fields.specs.FieldViews.{view_of}
use Rattle.asn1_laws.proofs.ComponentTags.{found, not_found}
use Rattle.asn1_dec.proofs.fields.component_with_tag.Goals as goal

pub returns-then-can_begin_with : goal.returns-then-can_begin_with
returns-then-can_begin_with g c =
    found g.C.FieldTable.components c.args.tag c.loop-index.index (view_of c.in-Some-field_at.field) (sym c.in-Some-field_at.ensures) (c.can_begin_with.ensures.0 c.if-can_begin_with.true)

pub returns : goal.returns
returns g c = not_found g.C.FieldTable.components c.args.tag (λ index e below. c.loop-index.invariant index e (omega (arith, below, c.loop-index-test.false, c.field_count-index-end.ensures)))
