-- The output for an input.
use Rattle.std.specs.Prelude.{◌≡◌, ◌≢◌, ◌⊎◌, ◌+◌, ◌==◌, ℕ, Bool, List, [], ◌∷◌, ◌++◌, None, Option, Some, false, if◌then◌else◌, length, true}
use Rattle.std.specs.Io.KnownBytes.{Appends, Consumes}
use Rattle.std.specs.Option.{option_map}
use Rattle.asn1_certificate_input.specs.Inputs.{AreCertificatesOf}
use Rattle.asn1_certificate_input.specs.Refused.{IsRefusalOf, IsRefusalOfInput}
use Rattle.asn1_certificate_input.specs.Shown.{IsShownOf, separator}
use Rattle.asn1_certificate_input.specs.declared.certificate.Warnings.{Warnings}
use Rattle.asn1_certificate_input.specs.declared.error.InputError.{InputError}
use Rattle.asn1_certificate_input.specs.declared.error.InputError.TheVariants.{Memory}
use Rattle.asn1_certificate_input.specs.declared.message.Message.{Message}
use Rattle.asn1_certificate_input.specs.declared.message.Notice.{Notice}
use Rattle.asn1_certificate_input.specs.declared.message.Notice.TheVariants.{Alphabet, Departs, Refusal}
use Rattle.asn1_certificate_input.specs.declared.options.Options.{Options}
use Rattle.asn1_certificate_text.specs.declared.pem.PemCertificate.{PemCertificate}

-- the number of the certificate at this index of an input, from 1, if the input has several
abbrev pub number_of : ℕ → ℕ → Option ℕ
number_of index count = if count == 1 then None else Some (index + 1)

-- the message of a notice, if there is one
abbrev pub messages_of : Option ℕ → Option Notice → List Message
messages_of number None = []
messages_of number (Some notice) = record { number = number; notice = notice } ∷ []

-- the warnings about a certificate, as messages: of a departure from DER, and of a string of its issuer and one of its subject with
-- characters outside their alphabet, each if there is one
abbrev pub warning_messages : Option ℕ → Warnings → List Message
warning_messages number warnings =
    messages_of number (option_map Departs warnings.departure) ++
    (messages_of number (option_map Alphabet warnings.issuer) ++ messages_of number (option_map Alphabet warnings.subject))

-- a refusal
abbrev pub refusal : Option ℕ → InputError → Message
refusal number error = record { number = number; notice = Refusal error }

-- Of certificates of an input, which has this many, the bytes are those of each that is shown, one behind the other; the messages are
-- the warnings about each that is shown, and the refusal of each that is refused, in their order; and whether one is refused.
pub data AreAnswers (options : Options) (count : ℕ) : List PemCertificate → List ℕ → List Message → Bool → Type 0 where
  none : AreAnswers options count [] [] [] false
  shown : (found : List PemCertificate) (next : PemCertificate) (bytes more : List ℕ) (messages : List Message) (warnings : Warnings) (refused : Bool) →
      AreAnswers options count found bytes messages refused → IsShownOf options next more warnings →
      AreAnswers options count (found ++ next ∷ []) (bytes ++ (separator options bytes ++ more)) (messages ++ warning_messages (number_of (length found) count) warnings) refused
  refused : (found : List PemCertificate) (next : PemCertificate) (bytes : List ℕ) (messages : List Message) (before : Bool) (error : InputError) →
      AreAnswers options count found bytes messages before → IsRefusalOf options next error → error ≢ Memory →
      AreAnswers options count (found ++ next ∷ []) bytes (messages ++ refusal (number_of (length found) count) error ∷ []) true

-- The input is refused: no bytes are of it, and the refusal is the only message.
pub record RefusesInput (input bytes : List ℕ) (messages : List Message) (is_refused : Bool) : Type 0 where
  pub error : InputError
  pub not_memory : error ≢ Memory
  pub reason : IsRefusalOfInput input error
  pub no_bytes : bytes ≡ []
  pub only : messages ≡ refusal None error ∷ []
  pub refused : is_refused ≡ true

-- The bytes and the messages are those of the certificates of the input.
pub record AnswersCertificates (options : Options) (input bytes : List ℕ) (messages : List Message) (is_refused : Bool) : Type 0 where
  pub found : List PemCertificate
  pub of_input : AreCertificatesOf input found
  pub answers : AreAnswers options (length found) found bytes messages is_refused

-- the bytes and the messages are the output for an input, and whether it or one of its certificates is refused
abbrev pub AnswersInput : Options → List ℕ → List ℕ → List Message → Bool → Type 0
AnswersInput options input bytes messages is_refused =
    AnswersCertificates options input bytes messages is_refused ⊎ RefusesInput input bytes messages is_refused

-- A call that reads an input, and writes bytes that are of it by this relation: what remains to be read and what has been written,
-- each before and after it.
pub record Converts (IsOfInput : List ℕ → List ℕ → Type 0) (remaining_before remaining contents_before contents : Option (List ℕ)) : Type 0 where
  pub input : List ℕ
  pub bytes : List ℕ
  pub read : Consumes remaining_before remaining input
  pub are_of_input : IsOfInput input bytes
  pub written : Appends contents_before contents bytes
