-- Octets that break a rule, or hold elements that lie deeper.
use Rattle.std.proofs.Common.{ℕ, List, refl}
use Rattle.asn1_certificate_rules.specs.Departures.{KeepsRules}
use Rattle.asn1_certificate_rules.specs.Findings.{Finds, IsAsked}
use Rattle.asn1_certificate_rules.specs.declared.finding.Finding.{Finding}
use Rattle.asn1_certificate_rules.specs.declared.finding.Finding.TheVariants as finding
use Rattle.asn1_certificate_rules.specs.declared.notation.Part.TheVariants as part
use Rattle.asn1_certificate_rules.specs.declared.rule.RuleSet.TheVariants as rules
use Rattle.asn1_model.specs.Meaning.{Meaning}
use Rattle.asn1_convert.specs.Checks.{AreRefusedFor}
use Rattle.asn1_convert.specs.declared.check.CheckError.TheVariants.{Broken}

-- octets that keep the rules are refused for elements that lie deeper
pub deeper_alone : {V : Type 0} (m : Meaning V) (depth : ℕ) (v : V) (octets : List ℕ) (f : Finding) → Finds depth part.Other octets f →
    IsAsked rules.OfReading f → KeepsRules rules.OfReading part.Other octets → AreRefusedFor m depth v octets (Broken f)
deeper_alone m depth v octets (finding.Broken broken) departs asked keeps = absurd (keeps broken.rule broken.position asked departs)
deeper_alone m depth v octets (finding.Deeper position) lies asked keeps = (position, refl, lies)
