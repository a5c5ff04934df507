-- Rules of DER that a certificate breaks (X.690, 8 to 11), by numbers that C reads.
use Rattle.std.specs.Prelude.{◌≡◌, ℕ, List}
use Rattle.asn1_certificate_rules.specs.Departures.{Departs}
use Rattle.asn1_certificate_rules.specs.declared.notation.Part.TheVariants.{Certificate}
use Rattle.asn1_certificate_rules.specs.declared.rule.Rule.{Rule}
use Rattle.asn1_certificate_rules.specs.declared.rule.Rule.TheVariants.{LongIdentifier, IndefiniteLength, LongLength, PaddedInteger, PaddedArc, OtherTrue, ConstructedString, UnusedBit, TrailingZero, Default, SetOrder, GeneralizedTime, UtcTime}

-- the number of a rule
abbrev pub rule_number : Rule → ℕ
rule_number LongIdentifier = 1
rule_number IndefiniteLength = 2
rule_number LongLength = 3
rule_number PaddedInteger = 4
rule_number PaddedArc = 5
rule_number OtherTrue = 6
rule_number ConstructedString = 7
rule_number UnusedBit = 8
rule_number TrailingZero = 9
rule_number Default = 10
rule_number SetOrder = 11
rule_number GeneralizedTime = 12
rule_number UtcTime = 13

-- The octets break the rule of this number at this position, where the notation has a certificate.
pub record BreaksAt (octets : List ℕ) (number position : ℕ) : Type 0 where
  pub rule : Rule
  pub is : rule_number rule ≡ number
  pub departs : Departs Certificate octets rule position
