-- Versions, numbers and times.
use Rattle.std.specs.Prelude.{◌≡◌, ◌≢◌, ◌↔◌, ℕ, ℤ, ◌<ℤ◌, IsTrue, List, pos}
use Rattle.std.specs.Str.{chars}
use Rattle.asn1_certificate_text.specs.MomentTexts.{IsInCalendar, IsOfUtcTime, generalized_time, utc_time}
use Rattle.asn1_certificate_text.specs.declared.moment.Moment.{Moment as SomeMoment}
use Rattle.asn1_certificate_text.specs.declared.number.OctetNumber.{OctetNumber}
use Rattle.asn1_certificate_text.specs.declared.number.Version.{Version}
use Rattle.asn1_certificate_text.specs.declared.number.Version.TheVariants.{First, Second, Third, Unknown}
use Rattle.asn1_certificate_text.specs.declared.time.ShownTime.{ShownTime}
use Rattle.asn1_certificate_text.specs.declared.time.ShownTime.TheVariants.{Moment, Text}
use Rattle.asn1_values.specs.Numbers.{IsShortest, magnitude, signed}
use Rattle.asn1_x509.specs.declared.time.Time.{Time}
use Rattle.asn1_x509.specs.declared.time.Time.TheVariants.{UtcTime, GeneralTime}

-- the version with this number (RFC 5280, 4.1.2.1); one that there is not is shown by its number
abbrev pub IsVersionOf : ℤ → Version → Type 0
IsVersionOf number First = number ≡ pos 0
IsVersionOf number Second = number ≡ pos 1
IsVersionOf number Third = number ≡ pos 2
IsVersionOf number (Unknown shown) = (shown ≡ number) × ((number ≢ pos 0) × ((number ≢ pos 1) × (number ≢ pos 2)))

-- The number, by its sign and the octets of its magnitude, without leading zeros.
pub record IsOctetNumberOf (number : ℤ) (shown : OctetNumber) : Type 0 where
  pub sign : IsTrue shown.is_negative ↔ (number <ℤ pos 0)
  pub same : signed shown.is_negative (magnitude shown.octets.items) ≡ number
  pub shortest : IsShortest shown.octets.items

-- the text of a UTCTime says this moment (RFC 5280, 4.1.2.5.1)
abbrev pub SaysInUtc : List ℕ → SomeMoment → Type 0
SaysInUtc text m = IsInCalendar m × (IsOfUtcTime m × (text ≡ utc_time m))

-- the text of a GeneralizedTime does (4.1.2.5.2)
abbrev pub SaysInGeneral : List ℕ → SomeMoment → Type 0
SaysInGeneral text m = IsInCalendar m × (text ≡ generalized_time m)

-- the moment of a text, or the text itself if it is that of no moment
abbrev pub IsTextOfTime : (List ℕ → SomeMoment → Type 0) → List ℕ → ShownTime → Type 0
IsTextOfTime Says text (Moment m) = Says text m
IsTextOfTime Says text (Text said) = (said.items ≡ chars text) × ((m : SomeMoment) → ¬ Says text m)

-- the same of a time
abbrev pub IsTimeOf : Time → ShownTime → Type 0
IsTimeOf (UtcTime time) shown = IsTextOfTime SaysInUtc time.value shown
IsTimeOf (GeneralTime time) shown = IsTextOfTime SaysInGeneral time.value shown
