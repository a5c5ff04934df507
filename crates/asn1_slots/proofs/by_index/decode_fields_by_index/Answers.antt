use Rattle.asn1_slots.proofs.ReadByIndex.{made}
use Rattle.asn1_components.specs.Components.{all_components}
use Rattle.asn1_slots.proofs.Layouts.{slots_of_type}
use Rattle.asn1_slots.proofs.ReadExactly.{fields_were_read}
use Rattle.asn1_slots.proofs.by_index.decode_fields_by_index.Goals as goal

pub returns-in-Ok-clause-read : goal.returns-in-Ok-clause-read
returns-in-Ok-clause-read g c = λ v rest outer can of_type valid ends at.
    made g.D.Decoder.reader g.C.DecodeByIndex.layout g.C.PartialEq.eq v _ _ _ _ _ _ (c.in-Ok.ensures.read v rest outer can of_type valid ends at) c.value_of_slots.ensures.made

pub returns-in-Ok-clause-only : goal.returns-in-Ok-clause-only
returns-in-Ok-clause-only g c =
    fields_were_read g.D.Decoder.reader (all_components g.C.FieldTable.components) g.C.DecodeByIndex.layout (slots_of_type g.C.FieldTable.components g.C.DecodeByIndex.layout c.requires.laid_out) _ _ _
    c.value_of_slots.result c.in-Ok.ensures.only c.value_of_slots.ensures.only
