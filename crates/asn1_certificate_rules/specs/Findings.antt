-- The finding of a walk over bytes: a rule that they break, or an element that lies deeper than it looks.
use Rattle.std.specs.Prelude.{⊤, ℕ, ◌+◌, List}
use Rattle.asn1_certificate_rules.specs.Departures.{Departs, IsInside}
use Rattle.asn1_certificate_rules.specs.Depths.{IsDeeperInside, LiesDeeper}
use Rattle.asn1_certificate_rules.specs.Rules.{IsOf}
use Rattle.asn1_certificate_rules.specs.declared.finding.Finding.{Finding}
use Rattle.asn1_certificate_rules.specs.declared.finding.Finding.TheVariants.{Broken, Deeper}
use Rattle.asn1_certificate_rules.specs.declared.notation.Part.{Part}
use Rattle.asn1_certificate_rules.specs.declared.rule.RuleSet.{RuleSet}
use Rattle.asn1_der_items.specs.Elements.{Element}

-- the bytes, which have this part of a certificate first, break the rule at its position, or hold elements at the position that lie
-- deeper than this depth
abbrev pub Finds : ℕ → Part → List ℕ → Finding → Type 0
Finds depth part bytes (Broken broken) = Departs part bytes broken.rule broken.position
Finds depth part bytes (Deeper position) = LiesDeeper depth part bytes position

-- the same of what is inside an element at this place, by the position in its contents octets
abbrev pub FindsInside : ℕ → Part → Element → Finding → Type 0
FindsInside depth part e (Broken broken) = IsInside part e broken.rule broken.position
FindsInside depth part e (Deeper position) = IsDeeperInside depth part e position

-- a rule that is found is one of these
abbrev pub IsAsked : RuleSet → Finding → Type 0
IsAsked rules (Broken broken) = IsOf rules broken.rule
IsAsked rules (Deeper position) = ⊤

-- the position of what is found
abbrev pub position_of : Finding → ℕ
position_of (Broken broken) = broken.position
position_of (Deeper position) = position

-- the same behind this many further bytes
abbrev pub moved : ℕ → Finding → Finding
moved count (Broken broken) = Broken (record { rule = broken.rule; position = count + broken.position })
moved count (Deeper position) = Deeper (count + position)
