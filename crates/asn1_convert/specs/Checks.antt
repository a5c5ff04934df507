-- Why octets are not the DER of a value of a type.
use Rattle.std.specs.Prelude.{◌≡◌, ℕ, ⊤, Bool, List, Option, Some, Ok, Vec}
use Rattle.std.specs.declared.alloc.Global.{Global}
use Rattle.asn1_certificate_rules.specs.Departures.{KeepsRules}
use Rattle.asn1_certificate_rules.specs.Depths.{LiesDeeper}
use Rattle.asn1_certificate_rules.specs.Findings.{Finds, IsAsked, position_of}
use Rattle.asn1_certificate_rules.specs.declared.finding.Finding.TheVariants.{Deeper}
use Rattle.asn1_certificate_rules.specs.declared.notation.Part.TheVariants as part
use Rattle.asn1_certificate_rules.specs.declared.rule.RuleSet.TheVariants as rules
use Rattle.asn1_der.specs.Format.{der_format}
use Rattle.asn1_laws.specs.Refusals.{Refusals}
use Rattle.asn1_model.specs.Meaning.{IsWellTagged, Meaning, own_records}
use Rattle.asn1_rules.specs.CanonicalReading.{DepartsAs, HasOneSpelling, IsRefusedFor, IsWrittenAs, MayAnswer}
use Rattle.asn1_convert.specs.declared.check.CheckError.{CheckError}
use Rattle.asn1_convert.specs.declared.check.CheckError.TheVariants.{Broken, NotCanonical}

-- They break this rule at its position, or elements lie deeper there (X.690, 8 to 11); or they are not read as a value, or not
-- what writing it makes.
abbrev pub IsCheckError : {V : Type 0} → Meaning V → (V → V → Bool) → Refusals → ℕ → Vec ℕ Global → CheckError → Type 0
IsCheckError m eq refusals depth octets (Broken finding) = Finds depth part.Other octets.items finding × IsAsked rules.OfReading finding
IsCheckError m eq refusals depth octets (NotCanonical e) = DepartsAs der_format m eq refusals depth octets e

-- Why octets that are the only DER of a value, and keep the rules, are refused: elements lie deeper than the depth; or memory ran out,
-- or the value's records are nested deeper.
abbrev pub AreRefusedFor : {V : Type 0} → Meaning V → ℕ → V → List ℕ → CheckError → Type 0
AreRefusedFor m depth v octets (Broken finding) = (position : ℕ) × (finding ≡ Deeper position) × LiesDeeper depth part.Other octets position
AreRefusedFor m depth v octets (NotCanonical e) = IsRefusedFor der_format m depth v e

-- The position that is shown is that of a rule that the octets break, or of elements that lie deeper; of other octets it may be any.
abbrev pub IsFaultPosition : CheckError → Option ℕ → Type 0
IsFaultPosition (Broken finding) position = position ≡ Some (position_of finding)
IsFaultPosition (NotCanonical e) position = ⊤

module _ {V : Type 0} (m : Meaning V) (eq : V → V → Bool) (refusals : Refusals) (depth : ℕ) (octets : Vec ℕ Global) where
  -- The octets are the DER of a value, as which they may be read, and break no rule of X.690 that reading asks for.
  pub record AreDer : Type 0 where
    pub value : V
    pub may_be_read : MayAnswer der_format m eq refusals depth octets (Ok value)
    pub written : IsWrittenAs der_format m depth value octets.items
    pub keep_rules : KeepsRules rules.OfReading part.Other octets.items

  -- They were refused for an error. Of octets that are the only DER of a valid value and keep the rules it is one of memory or of
  -- depth.
  pub record AreRefused : Type 0 where
    pub error : CheckError
    pub departs : IsCheckError m eq refusals depth octets error
    pub only_der : (v : V) → IsWellTagged m → m.IsOfType v → m.IsValid der_format.accepts v → der_format.carries octets (own_records m v) →
        HasOneSpelling der_format m eq v octets.items → KeepsRules rules.OfReading part.Other octets.items → AreRefusedFor m depth v octets.items error
