-- The certificates of a text (RFC 7468, 2 and 5).
use Rattle.std.specs.Prelude.{◌≡◌, ◌+◌, ℕ, ⊤, List, [], ◌∷◌, Ok, drop, filter, length}
use Rattle.base64.specs.Engines.{standard}
use Rattle.base64.specs.GeneralPurpose.{decode_of}
use Rattle.asn1_certificate_text.specs.PemLines.{EnclosesAt, HasNoBegin, HasNoEnd, end_line, is_symbol}
use Rattle.asn1_certificate_text.specs.PemRefusals.{IsAboutBase64}
use Rattle.asn1_certificate_text.specs.declared.pem.PemCertificate.{PemCertificate}
use Rattle.asn1_certificate_text.specs.declared.pem.PemCertificate.TheVariants.{Octets, Refused}
use Rattle.asn1_certificate_text.specs.declared.pem.PemError.TheVariants.{NoEnd}

-- The octets are those that the base64 of a body encodes, or the error is about that base64. The body begins at `start` in the text.
abbrev pub IsFound : ℕ → List ℕ → PemCertificate → Type 0
IsFound start body (Octets octets) = decode_of standard (filter is_symbol body) ≡ Ok octets.items
IsFound start body (Refused error) = IsAboutBase64 start body error

-- The certificates of a text from a position on, of which this is the rest: none where no line is before one, a last one where no line
-- ends it, or the first and those after the line that ends it.
pub data AreCertificatesFrom : ℕ → List ℕ → List PemCertificate → Type 0 where
  no_more : (start : ℕ) (rest : List ℕ) → HasNoBegin rest → AreCertificatesFrom start rest []
  no_end : (start : ℕ) (rest : List ℕ) (end : ℕ) → HasNoEnd rest end → AreCertificatesFrom start rest (Refused (NoEnd (start + end)) ∷ [])
  one_more : (start : ℕ) (rest : List ℕ) (begin : ℕ) (body : List ℕ) (first : PemCertificate) (others : List PemCertificate) →
      EnclosesAt rest begin body → IsFound (start + begin) body first →
      AreCertificatesFrom (start + (begin + length body + length end_line)) (drop (begin + length body + length end_line) rest) others →
      AreCertificatesFrom start rest (first ∷ others)

-- both have the same octets, or none
abbrev pub TellSameOctets : PemCertificate → PemCertificate → Type 0
TellSameOctets (Octets a) (Octets b) = a.items ≡ b.items
TellSameOctets (Refused a) (Refused b) = ⊤
TellSameOctets _ _ = ⊥
