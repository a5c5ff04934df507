-- Where bytes depart from DER, and the rule of X.690 that they break there.
use Rattle.std.specs.Prelude.{◌≡◌, ℕ, ◌+◌, ◌-◌, List, None, Some, length, true}
use Rattle.asn1_certificate_rules.specs.Depths.{header_of}
use Rattle.asn1_certificate_rules.specs.Headers.{BreaksHeader}
use Rattle.asn1_certificate_rules.specs.Notation.{opens, part_behind, part_inside}
use Rattle.asn1_certificate_rules.specs.Rules.{BreaksRule, IsOf}
use Rattle.asn1_certificate_rules.specs.declared.notation.Part.{Part}
use Rattle.asn1_certificate_rules.specs.declared.rule.Rule.{Rule}
use Rattle.asn1_certificate_rules.specs.declared.rule.RuleSet.{RuleSet}
use Rattle.asn1_der_items.specs.Elements.{Element, element_at}

-- The bytes, which have this part of a certificate first, break the rule at this position. They begin with no element, and break a rule
-- on identifiers or lengths; or the element with which they begin breaks a rule; or the bytes behind it do, or those inside it, at any
-- depth.
pub data Departs : Part → List ℕ → Rule → ℕ → Type 0 where
  in_header : (part : Part) (bytes : List ℕ) (rule : Rule) (position : ℕ) → element_at bytes ≡ None → BreaksHeader bytes rule position →
      Departs part bytes rule position
  here : (part : Part) (bytes : List ℕ) (e : Element) (rule : Rule) (position : ℕ) → element_at bytes ≡ Some e →
      BreaksRule part (header_of bytes e) e rule position → Departs part bytes rule position
  behind : (part : Part) (bytes : List ℕ) (e : Element) (rule : Rule) (position : ℕ) → element_at bytes ≡ Some e →
      Departs (part_behind part e) e.rest rule position → Departs part bytes rule (length bytes - length e.rest + position)
  inside : (part : Part) (bytes : List ℕ) (e : Element) (rule : Rule) (position : ℕ) → element_at bytes ≡ Some e →
      opens part e ≡ true → Departs (part_inside part e) e.contents rule position →
      Departs part bytes rule (header_of bytes e + position)

-- An element at this place has others inside, and these break the rule at this position of the contents octets.
pub record IsInside (part : Part) (e : Element) (rule : Rule) (position : ℕ) : Type 0 where
  pub opened : opens part e ≡ true
  pub departs : Departs (part_inside part e) e.contents rule position

-- The bytes, which have this part of a certificate first, break none of these rules, at any depth.
abbrev pub KeepsRules : RuleSet → Part → List ℕ → Type 0
KeepsRules rules part bytes = (rule : Rule) (position : ℕ) → IsOf rules rule → Departs part bytes rule position → ⊥

-- The contents of an element at this place break none of them.
abbrev pub InsideKeepsRules : RuleSet → Part → Element → Type 0
InsideKeepsRules rules part e = (rule : Rule) (position : ℕ) → IsOf rules rule → IsInside part e rule position → ⊥
