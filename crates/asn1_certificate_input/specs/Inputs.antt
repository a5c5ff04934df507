-- The certificates of an input.
use Rattle.std.specs.Prelude.{◌≡◌, ◌≢◌, ◌⊎◌, ℕ, List, [], ◌∷◌, Some, Vec, false, slice_get, true}
use Rattle.std.specs.declared.alloc.Global.{Global}
use Rattle.asn1_certificate_input.specs.Certificates.{IsFollowed}
use Rattle.asn1_certificate_text.specs.Pem.{AreCertificatesFrom}
use Rattle.asn1_certificate_text.specs.PemLines.{HasBegin, HasNoBegin}
use Rattle.asn1_certificate_text.specs.declared.pem.PemCertificate.{PemCertificate}
use Rattle.asn1_certificate_text.specs.declared.pem.PemCertificate.TheVariants.{Octets}
use Rattle.asn1_der_items.specs.Series.{is_one_element}

-- a SEQUENCE begins the input, by its first octet
abbrev pub BeginsSequence : List ℕ → Type 0
BeginsSequence input = slice_get input 0 ≡ Some 48

-- none does
abbrev pub BeginsNoSequence : List ℕ → Type 0
BeginsNoSequence input = slice_get input 0 ≢ Some 48

-- A text with certificates: the input has a line before a certificate, and it does not begin as a SEQUENCE does, or is not one element.
pub record IsText (input : List ℕ) : Type 0 where
  pub line : HasBegin input
  pub no_der : BeginsNoSequence input ⊎ (is_one_element input ≡ false)

-- The input has no such line; or it begins as a SEQUENCE does, and is one element, or begins with an element and others follow, as a
-- certificate does before trailing bytes.
abbrev pub IsNoText : List ℕ → Type 0
IsNoText input = HasNoBegin input ⊎ (BeginsSequence input × ((is_one_element input ≡ true) ⊎ ((end : ℕ) × IsFollowed input end)))

-- The certificate of an input is the input itself.
pub record IsAlone (input : List ℕ) (found : List PemCertificate) : Type 0 where
  pub octets : Vec ℕ Global
  pub only : found ≡ Octets octets ∷ []
  pub are : octets.items ≡ input

-- the certificates of a text, or the input itself, which begins as a SEQUENCE does
abbrev pub AreCertificatesOf : List ℕ → List PemCertificate → Type 0
AreCertificatesOf input found =
    (IsText input × AreCertificatesFrom 0 input found) ⊎ (IsNoText input × BeginsSequence input × IsAlone input found)
