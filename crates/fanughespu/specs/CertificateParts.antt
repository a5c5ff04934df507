-- Elements of a certificate by their paths (RFC 5280, 4.1).
use Rattle.std.specs.Prelude.{◌≡◌, ◌+◌, ℕ, List, [], ◌∷◌, Option, None, Some, drop, length, nat_eq, if◌then◌else◌}
use Rattle.std.specs.Option.{option_and_then}
use Rattle.asn1_der_items.specs.Elements.{Element, element_at}
use Rattle.asn1_der_items.specs.Paths.{position_at_path}
use Rattle.asn1_model.specs.Tags.{context}
use Rattle.asn1_tags.specs.Tags.{tag_eq}
use Rattle.fanughespu.specs.declared.certificate_parts.CertificatePart.{CertificatePart}
use Rattle.fanughespu.specs.declared.certificate_parts.CertificatePart.TheVariants.{Signed, SerialNumber, Issuer, Subject, Key, Signature}

-- the first element inside the first element of a certificate, which is the signed part
abbrev pub first_signed : List ℕ → Option Element
first_signed octets =
    option_and_then (λ (c : Element). option_and_then (λ (s : Element). element_at s.contents) (element_at c.contents)) (element_at octets)

-- one before the serial number for the version, whose tag is [0], and else none
abbrev pub count_of_version : Option Element → ℕ
count_of_version (Some e) = if tag_eq e.tag (context 0) then 1 else 0
count_of_version None = 0

-- how many elements of the signed part are before its serial number
abbrev pub version_count : List ℕ → ℕ
version_count octets = count_of_version (first_signed octets)

-- The path of a part. The signed part is the first element of a certificate, and the signature the third. In the signed part the
-- serial number is first if there is no version, the issuer third, the subject fifth and the key sixth.
abbrev pub path_of : List ℕ → CertificatePart → List ℕ
path_of octets Signed = 0 ∷ []
path_of octets SerialNumber = 0 ∷ version_count octets ∷ []
path_of octets Issuer = 0 ∷ (version_count octets + 2) ∷ []
path_of octets Subject = 0 ∷ (version_count octets + 4) ∷ []
path_of octets Key = 0 ∷ (version_count octets + 5) ∷ []
path_of octets Signature = 2 ∷ []

-- the part of a number
abbrev pub part_of : ℕ → Option CertificatePart
part_of number =
    if nat_eq number 0 then Some Signed else
    (if nat_eq number 1 then Some SerialNumber else
    (if nat_eq number 2 then Some Issuer else
    (if nat_eq number 3 then Some Subject else
    (if nat_eq number 4 then Some Key else
    (if nat_eq number 5 then Some Signature else None)))))

-- the position to which the path of the part of a number leads
abbrev pub position_of_part : List ℕ → ℕ → Option ℕ
position_of_part octets number = option_and_then (λ part. position_at_path octets (path_of octets part)) (part_of number)

-- The path of the part of this number leads to this position of the octets, and an element of this many octets begins there.
pub record IsPartAt (octets : List ℕ) (number position size : ℕ) : Type 0 where
  pub element : Element
  pub leads : position_of_part octets number ≡ Some position
  pub begins : element_at (drop position octets) ≡ Some element
  pub ends : size + length element.rest ≡ length (drop position octets)

-- The octets have the part of this number.
pub record HasPart (octets : List ℕ) (number : ℕ) : Type 0 where
  pub position : ℕ
  pub size : ℕ
  pub is : IsPartAt octets number position size
