-- The positions of refused parts in the octets of a certificate.
use Rattle.std.specs.Prelude.{ℕ, ◌-◌, Bool, List, [], ◌∷◌, Option, None, Some, false, if◌then◌else◌}
use Rattle.std.specs.Option.{unwrap_or}
use Rattle.asn1_certificate_reader.specs.declared.name_faults.NameFault.{NameFault}
use Rattle.asn1_der_items.specs.Elements.{Element, element_at}
use Rattle.asn1_der_items.specs.Paths.{position_at_path}
use Rattle.asn1_model.specs.Tags.{context}
use Rattle.asn1_tags.specs.Tags.{tag_eq}

-- the contents octets of an element, if there is one
abbrev pub contents_in : Option Element → List ℕ
contents_in (Some e) = e.contents
contents_in None = []

-- the contents octets of the element with which octets begin
abbrev pub contents_of : List ℕ → List ℕ
contents_of octets = contents_in (element_at octets)

-- whether an element, if there is one, is the version of a certificate, by its tag
abbrev pub is_version : Option Element → Bool
is_version (Some e) = tag_eq e.tag (context 0)
is_version None = false

-- Whether a certificate has a version, as it does if that is not the DEFAULT: the signed part is the first component of a
-- certificate, and the version is the first component of that, under the tag [0] (RFC 5280, 4.1).
abbrev pub has_version : List ℕ → Bool
has_version octets = is_version (element_at (contents_of (contents_of octets)))

-- The indices of components of the signed part of a certificate with a version: after it and the serial number come these, and
-- the validity is between the two names (RFC 5280, 4.1).
abbrev pub signature : ℕ
signature = 2

abbrev pub issuer : ℕ
issuer = 3

abbrev pub subject : ℕ
subject = 5

abbrev pub key : ℕ
key = 6

-- the index of a component of the signed part, from its index in a certificate with a version
abbrev pub index_of : List ℕ → ℕ → ℕ
index_of octets index = if has_version octets then index else index - 1

-- the position to which a path leads in octets, or 0 if it leads to none
abbrev pub position_at : List ℕ → List ℕ → ℕ
position_at octets path = unwrap_or (position_at_path octets path) 0

-- the position of the value of an attribute in the name with this index
abbrev pub position_of_value : List ℕ → ℕ → NameFault → ℕ
position_of_value octets name fault = position_at octets (0 ∷ index_of octets name ∷ fault.part ∷ fault.attribute ∷ 1 ∷ [])

-- the position of the parameters of the algorithm of the key
abbrev pub position_of_key_parameters : List ℕ → ℕ
position_of_key_parameters octets = position_at octets (0 ∷ index_of octets key ∷ 0 ∷ 1 ∷ [])

-- the position of the parameters of the algorithm of the signature, in the signed part
abbrev pub position_of_signed_parameters : List ℕ → ℕ
position_of_signed_parameters octets = position_at octets (0 ∷ index_of octets signature ∷ 1 ∷ [])

-- the same beside the signed part
abbrev pub position_of_parameters_beside : List ℕ → ℕ
position_of_parameters_beside octets = position_at octets (1 ∷ 1 ∷ [])
