use Rattle.std.proofs.Common.{sym}
use Rattle.asn1_fields.specs.FieldViews.{view_of}
use Rattle.asn1_laws.proofs.ComponentTags.{found}
use Rattle.asn1_dec.proofs.fields.component_with_one_tag.Goals as goal

pub returns-then-is_one_tag : goal.returns-then-is_one_tag
returns-then-is_one_tag g c =
    found g.C.FieldTable.components c.args.tag c.loop-index.index (view_of c.in-Some.field) (sym c.in-Some.ensures) (c.is_one_tag.ensures c.if-is_one_tag.true)
