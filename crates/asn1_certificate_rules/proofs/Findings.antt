-- A finding inside an element or behind it is one in the bytes that begin with it.
use Rattle.std.proofs.Common.{◌≡◌, ℕ, zero, suc, ◌+◌, ◌-◌, ◌≤◌, List, None, Option, Some, arith, length, subst, true}
use Rattle.std.specs.Prelude.{MatchOption}
use Rattle.asn1_certificate_rules.proofs.BrokenRulePositions.{departs-within}
use Rattle.asn1_certificate_rules.specs.Departures.{Departs, InsideKeepsRules, KeepsRules, behind, inside}
use Rattle.asn1_certificate_rules.specs.Depths.{LiesDeeper, at_once, below, header_of, later}
use Rattle.asn1_certificate_rules.specs.Findings.{Finds, FindsInside, IsAsked, moved, position_of}
use Rattle.asn1_certificate_rules.specs.Notation.{opens, part_behind, part_inside}
use Rattle.asn1_certificate_rules.specs.declared.finding.Finding.{Finding}
use Rattle.asn1_certificate_rules.specs.declared.finding.Finding.TheVariants.{Broken, Deeper}
use Rattle.asn1_certificate_rules.specs.declared.notation.Part.{Part}
use Rattle.asn1_certificate_rules.specs.declared.rule.Rule.{Rule}
use Rattle.asn1_certificate_rules.specs.declared.rule.RuleSet.{RuleSet}
use Rattle.asn1_der_items.proofs.TrailingBytes.{element_at-shorter, parts_fit}
use Rattle.asn1_der_items.specs.Elements.{Element, element_at}

-- an element that lies deeper is in the bytes
deeper-within : (depth : ℕ) (part : Part) (bytes : List ℕ) (position : ℕ) → LiesDeeper depth part bytes position → position ≤ length bytes
deeper-within _ _ _ _ (at_once part bytes e at opened some) = omega (arith, parts_fit bytes e at)
deeper-within _ _ _ _ (later depth part bytes e position at lies) =
    omega (arith, deeper-within depth _ e.rest position lies, element_at-shorter bytes e at)
deeper-within _ _ _ _ (below depth part bytes e position at opened lies) =
    omega (arith, deeper-within depth _ e.contents position lies, parts_fit bytes e at)

-- and so is what is found
pub finds-within : (depth : ℕ) (part : Part) (bytes : List ℕ) (f : Finding) → Finds depth part bytes f → position_of f ≤ length bytes
finds-within depth part bytes (Broken b) finds = departs-within part bytes b.rule b.position finds
finds-within depth part bytes (Deeper position) finds = deeper-within depth part bytes position finds

-- the same, with the bytes before it in two parts
pub finds-within_moved : (depth : ℕ) (part : Part) (bytes : List ℕ) (count : ℕ) (f : Finding) → Finds depth part bytes (moved count f) →
    count + position_of f ≤ length bytes
finds-within_moved depth part bytes count (Broken b) finds = finds-within depth part bytes (moved count (Broken b)) finds
finds-within_moved depth part bytes count (Deeper position) finds = finds-within depth part bytes (moved count (Deeper position)) finds

-- a rule that was asked for is so behind further bytes
pub asked-moved : (rules : RuleSet) (count : ℕ) (f : Finding) → IsAsked rules f → IsAsked rules (moved count f)
asked-moved rules count (Broken b) asked = asked
asked-moved rules count (Deeper position) asked = asked

-- a broken rule, and an element that lies deeper, are the same at another name of their position
departs-at : (part : Part) (bytes : List ℕ) (r : Rule) (position other : ℕ) → position ≡ other → Departs part bytes r position → Departs part bytes r other
departs-at part bytes r position other same departs = subst (λ (p : ℕ). Departs part bytes r p) same departs

deeper-at : (depth : ℕ) (part : Part) (bytes : List ℕ) (position other : ℕ) → position ≡ other → LiesDeeper depth part bytes position →
    LiesDeeper depth part bytes other
deeper-at depth part bytes position other same lies = subst (λ (p : ℕ). LiesDeeper depth part bytes p) same lies

-- what is found behind no further bytes is found there
pub finds-moved_none : (depth : ℕ) (part : Part) (bytes : List ℕ) (count : ℕ) (f : Finding) → count ≡ 0 → Finds depth part bytes f →
    Finds depth part bytes (moved count f)
finds-moved_none depth part bytes count (Broken b) none finds = departs-at part bytes b.rule _ _ (omega arith) finds
finds-moved_none depth part bytes count (Deeper position) none finds = deeper-at depth part bytes _ _ (omega arith) finds

-- what is found behind bytes, and further ones, is found behind both
pub finds-moved_twice : (depth : ℕ) (part : Part) (bytes : List ℕ) (first then both : ℕ) (f : Finding) → both ≡ first + then →
    Finds depth part bytes (moved first (moved then f)) → Finds depth part bytes (moved both f)
finds-moved_twice depth part bytes first then both (Broken b) sum finds = departs-at part bytes b.rule _ _ (omega arith) finds
finds-moved_twice depth part bytes first then both (Deeper position) sum finds = deeper-at depth part bytes _ _ (omega arith) finds

module _ (part : Part) (bytes : List ℕ) (e : Element) (at : element_at bytes ≡ Some e) where
  -- what is found behind an element
  pub finds-behind : (depth : ℕ) (f : Finding) → Finds depth (part_behind part e) e.rest f →
      Finds depth part bytes (moved (length bytes - length e.rest) f)
  finds-behind depth (Broken b) finds = behind part bytes e b.rule b.position at finds
  finds-behind depth (Deeper position) finds = later depth part bytes e position at finds

  -- what is found inside it
  pub finds-inside : (depth : ℕ) (f : Finding) → FindsInside depth part e f → Finds depth part bytes (moved (header_of bytes e) f)
  finds-inside depth (Broken b) finds = inside part bytes e b.rule b.position at finds.opened finds.departs
  finds-inside zero (Deeper position) finds = deeper-at zero part bytes _ _ (omega (arith, finds.2)) (at_once part bytes e at finds.0 finds.1)
  finds-inside (suc depth) (Deeper position) finds = below depth part bytes e position at finds.0 finds.1

-- what is found in the contents octets of an element that opens is found inside it
finds-in_contents : (rules : RuleSet) (depth : ℕ) (part : Part) (e : Element) (found : Option Finding) → opens part e ≡ true →
    MatchOption found (KeepsRules rules (part_inside part e) e.contents) (Finds depth (part_inside part e) e.contents) →
    MatchOption found (InsideKeepsRules rules part e) (FindsInside (suc depth) part e)
finds-in_contents rules depth part e None opened kept = λ r position asked inner. kept r position asked inner.departs
finds-in_contents rules depth part e (Some (Broken b)) opened finds = record { opened = opened; departs = finds }
finds-in_contents rules depth part e (Some (Deeper position)) opened finds = (opened, finds)

-- the same at other names of the depth and of the part inside
pub finds-below : (rules : RuleSet) (depth less : ℕ) (part inner : Part) (e : Element) (found : Option Finding) → suc less ≡ depth → inner ≡ part_inside part e →
    opens part e ≡ true → MatchOption found (KeepsRules rules inner e.contents) (Finds less inner e.contents) →
    MatchOption found (InsideKeepsRules rules part e) (FindsInside depth part e)
finds-below rules depth less part inner e found deeper same opened finds =
    subst (λ (d : ℕ). MatchOption found (InsideKeepsRules rules part e) (FindsInside d part e)) deeper
    (finds-in_contents rules less part e found opened
    (subst (λ (p : Part). MatchOption found (KeepsRules rules p e.contents) (Finds less p e.contents)) same finds))
