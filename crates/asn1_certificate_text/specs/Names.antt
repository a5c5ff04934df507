-- Names, as RFC 4514 writes them.
use Rattle.std.specs.Prelude.{ℕ, List, ◌++◌, codes}
use Rattle.std.specs.List.{flat_map, join_by}
use Rattle.asn1_values.specs.Text.{byte_text}
use Rattle.asn1_certificate_text.specs.Escapes.{escaped_text}
use Rattle.asn1_certificate_text.specs.declared.name.Attribute.{Attribute}
use Rattle.asn1_certificate_text.specs.declared.name.AttributeValue.{AttributeValue}
use Rattle.asn1_certificate_text.specs.declared.name.AttributeValue.TheVariants.{Text, Octets}
use Rattle.asn1_certificate_text.specs.declared.name.NamePart.{NamePart}
use Rattle.asn1_certificate_text.specs.declared.name.ShownName.{ShownName}
use Rattle.asn1_certificate_text.specs.Objects.{object_text}

-- a value (RFC 4514, 2.4)
abbrev pub value_text : AttributeValue → List ℕ
value_text (Text characters) = escaped_text characters.items
value_text (Octets octets) = codes "#" ++ flat_map byte_text octets.items

-- an attribute (2.3)
abbrev pub attribute_text : Attribute → List ℕ
attribute_text a = object_text a.kind ++ (codes "=" ++ value_text a.value)

-- the attributes of a part (2.2)
abbrev pub part_text : NamePart → List ℕ
part_text p = join_by attribute_text (codes "+") p.attributes.items

-- the parts of a name (2.1)
abbrev pub name_text : ShownName → List ℕ
name_text n = join_by part_text (codes ",") n.parts.items
