-- Extensions.
use Rattle.std.specs.Prelude.{ℕ, ℤ, Bool, List, [], ◌++◌, None, Option, Some, Vec, codes, if◌then◌else◌}
use Rattle.std.specs.declared.alloc.Global.{Global}
use Rattle.std.specs.List.{flat_map, join_by}
use Rattle.asn1_values.specs.Text.{integer_text}
use Rattle.asn1_certificate_text.specs.Bits.{usages_text}
use Rattle.asn1_certificate_text.specs.Octets.{octets_text}
use Rattle.asn1_certificate_text.specs.declared.extension.Authority.{Authority}
use Rattle.asn1_certificate_text.specs.declared.extension.AuthorityKey.{AuthorityKey}
use Rattle.asn1_certificate_text.specs.declared.extension.ExtensionValue.{ExtensionValue}
use Rattle.asn1_certificate_text.specs.declared.extension.ExtensionValue.TheVariants as value
use Rattle.asn1_certificate_text.specs.declared.extension.ShownExtension.{ShownExtension}
use Rattle.asn1_certificate_text.specs.declared.general_name.ShownGeneralName.{ShownGeneralName}
use Rattle.asn1_certificate_text.specs.GeneralNames.{general_name_text}
use Rattle.asn1_certificate_text.specs.declared.number.OctetNumber.{OctetNumber}
use Rattle.asn1_certificate_text.specs.Numbers.{octet_number_text}
use Rattle.asn1_certificate_text.specs.Objects.{object_text}

-- octets after a space
abbrev pub spaced_octets : List ℕ → List ℕ
spaced_octets octets = codes " " ++ octets_text octets

-- names, each on a line of its own
abbrev pub names_text : List ShownGeneralName → List ℕ
names_text names = flat_map (λ name. codes "\n    " ++ general_name_text name) names

-- an authority or not, in words
abbrev pub authority_word : Bool → List ℕ
authority_word is_authority = if is_authority then codes " an authority" else codes " no authority"

-- a path length, if there is one
abbrev pub path_length_text : Option ℤ → List ℕ
path_length_text (Some length) = codes ", path length " ++ integer_text length
path_length_text None = []

-- whether a certificate is that of an authority
abbrev pub authority_text : Authority → List ℕ
authority_text a = authority_word a.is_authority ++ path_length_text a.path_length

-- the identifier of a key, if there is one
abbrev pub identifier_text : Option (Vec ℕ Global) → List ℕ
identifier_text (Some octets) = spaced_octets octets.items
identifier_text None = []

-- a serial number, if there is one
abbrev pub serial_number_text : Option OctetNumber → List ℕ
serial_number_text (Some number) = codes "\n    serial number " ++ octet_number_text number
serial_number_text None = []

-- the key of an authority, by the parts that the certificate has
abbrev pub authority_key_text : AuthorityKey → List ℕ
authority_key_text k = identifier_text k.identifier ++ (serial_number_text k.serial_number ++ names_text k.issuer.items)

-- a value
abbrev pub extension_value_text : ExtensionValue → List ℕ
extension_value_text (value.KeyIdentifier octets) = spaced_octets octets.items
extension_value_text (value.Usages bits) = codes " " ++ usages_text bits.items
extension_value_text (value.Names names) = names_text names.items
extension_value_text (value.Authority authority) = authority_text authority
extension_value_text (value.AuthorityKey key) = authority_key_text key
extension_value_text (value.Purposes purposes) = codes " " ++ join_by object_text (codes ", ") purposes.items
extension_value_text (value.Octets octets) = spaced_octets octets.items
extension_value_text (value.OtherType octets) = codes " (not of its type)" ++ spaced_octets octets.items

-- what is between a kind and a value
abbrev pub criticality_text : Bool → List ℕ
criticality_text is_critical = if is_critical then codes ", critical:" else codes ":"

-- an extension
abbrev pub extension_text : ShownExtension → List ℕ
extension_text e = object_text e.kind ++ (criticality_text e.is_critical ++ extension_value_text e.value)
