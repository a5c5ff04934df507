-- Attributes with their values (RFC 4511, 4.1.7).
use Rattle.std.specs.Prelude.{ℕ, List, ◌++◌, codes}
use Rattle.std.specs.List.{flat_map}
use Rattle.asn1_ldap.specs.declared.partial_attribute.PartialAttribute.{PartialAttribute}
use Rattle.asn1_ldap_text.specs.Strings.{after_space, word}

-- an attribute: its description, and its values
abbrev pub attribute_text : PartialAttribute → List ℕ
attribute_text a = word a.type_ ++ flat_map after_space a.vals

-- the same after a comma
abbrev pub after_comma : PartialAttribute → List ℕ
after_comma a = codes ", " ++ attribute_text a
