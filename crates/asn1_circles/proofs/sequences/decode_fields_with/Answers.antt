use Rattle.asn1_components.specs.Components.{all_components}
use Rattle.asn1_slots.proofs.Layouts.{slots_of_type}
use Rattle.asn1_slots.proofs.ReadExactly.{fields_were_read}
use Rattle.asn1_slots.proofs.NamedErrors.{fails_alike}
use Rattle.asn1_slots.proofs.ReadByIndex.{made}
use Rattle.asn1_circles.proofs.sequences.decode_fields_with.Goals as goal

pub returns-in-Ok-clause-read : goal.returns-in-Ok-clause-read
returns-in-Ok-clause-read g c = λ v rest outer can of_type valid ends at.
    made g.D.Decoder.reader g.C.DecodeByIndexWith.layout g.C.PartialEq.eq v _ _ _ _ _ _ (c.in-Ok.ensures.read v rest outer can of_type valid ends at) c.value_of_slots_with.ensures.made

pub returns-in-Err-clause-read : goal.returns-in-Err-clause-read
returns-in-Err-clause-read g c = λ v rest outer can of_type valid ends at.
    fails_alike _ _ _ _ c.in_component.ensures.same (c.in-Err.ensures.read v rest outer can of_type valid ends at)

pub returns-in-Ok-clause-only : goal.returns-in-Ok-clause-only
returns-in-Ok-clause-only g c =
    fields_were_read g.D.Decoder.reader (all_components g.C.FieldTable.components) g.C.DecodeByIndexWith.layout (slots_of_type g.C.FieldTable.components g.C.DecodeByIndexWith.layout c.requires.laid_out) _ _ _
    c.value_of_slots_with.result c.in-Ok.ensures.only c.value_of_slots_with.ensures.only
