use Rattle.std.proofs.Common.{arith, refl, sym}
use Rattle.asn1_fields.specs.FieldViews.{view_of}
use Rattle.asn1_items.proofs.GroupTags.{by_component, by_none}
use Rattle.asn1_items.proofs.tags.group_can_begin_with.Goals as goal

pub returns-then-can_begin_with : goal.returns-then-can_begin_with
returns-then-can_begin_with g c =
    (λ _. by_component g.C.FieldTable.components c.args.tag c.loop-index.index (view_of c.in-Some.field) (sym c.in-Some.ensures) (c.can_begin_with.ensures.0 c.if-can_begin_with.true), λ _. refl)

pub returns : goal.returns
returns g c =
    by_none g.C.FieldTable.components c.args.tag c.field_count-count.result c.field_count-count.ensures
    (λ index e below. c.loop-index.invariant index e (omega (arith, below, c.loop-index-test.false, c.field_count-count.ensures)))
