-- Bytes that break no rule.
use Rattle.std.proofs.Common.{◌≡◌, ℕ, List, [], ◌∷◌, None, Some, arith, length, refl, subst}
use Rattle.asn1_certificate_rules.proofs.SetOrders.{same_element}
use Rattle.asn1_certificate_rules.specs.Departures.{Departs, InsideKeepsRules, IsInside, KeepsRules, behind, here, in_header, inside}
use Rattle.asn1_certificate_rules.specs.Depths.{header_of}
use Rattle.asn1_certificate_rules.specs.Headers.{HeaderKeepsRules}
use Rattle.asn1_certificate_rules.specs.Notation.{part_behind}
use Rattle.asn1_certificate_rules.specs.Rules.{BreaksRule, ElementKeepsRules}
use Rattle.asn1_certificate_rules.specs.declared.notation.Part.{Part}
use Rattle.asn1_certificate_rules.specs.declared.rule.Rule.TheVariants as rule
use Rattle.asn1_certificate_rules.specs.declared.rule.RuleSet.{RuleSet}
use Rattle.asn1_der_items.specs.Elements.{Element, element_at}

-- Bytes that begin with no element keep the rules that the header keeps.
pub header-kept : (rules : RuleSet) (part : Part) (bytes : List ℕ) → element_at bytes ≡ None → HeaderKeepsRules bytes →
    KeepsRules rules part bytes
header-kept rules _ _ none keeps _ _ asked (in_header part bytes r position at breaks) = keeps r position breaks
header-kept rules _ _ none keeps _ _ asked (here part bytes e r position at breaks) = cc
header-kept rules _ _ none keeps _ _ asked (behind part bytes e r later at departs) = cc
header-kept rules _ _ none keeps _ _ asked (inside part bytes e r later at opened departs) = cc

-- no bytes have no header
no_header : HeaderKeepsRules []
no_header rule.LongIdentifier position breaks = breaks.0
no_header rule.IndefiniteLength position breaks = let at = breaks.behind in cc
no_header rule.LongLength position breaks = let at = breaks.behind in cc
no_header r position breaks = breaks

-- and so they break no rule
pub empty-kept : (rules : RuleSet) (part : Part) (bytes : List ℕ) → length bytes ≡ 0 → KeepsRules rules part bytes
empty-kept rules part [] none = header-kept rules part [] refl no_header
empty-kept rules part (o ∷ bytes) none = absurd (omega (arith, none))

-- Bytes keep the rules that the element with which they begin keeps, by itself and inside, and the bytes behind it.
pub element-kept : (rules : RuleSet) (part : Part) (bytes : List ℕ) (e : Element) → element_at bytes ≡ Some e →
    ElementKeepsRules rules part (header_of bytes e) e → InsideKeepsRules rules part e → KeepsRules rules (part_behind part e) e.rest →
    KeepsRules rules part bytes
element-kept rules _ _ e is itself inner after _ _ asked (in_header part bytes r position at breaks) = cc
element-kept rules _ _ e is itself inner after _ _ asked (here part bytes f r position at breaks) =
    itself r position asked (subst (λ (x : Element). BreaksRule part (header_of bytes x) x r position) (same_element bytes f e at is) breaks)
element-kept rules _ _ e is itself inner after _ _ asked (behind part bytes f r later at departs) =
    after r later asked (subst (λ (x : Element). Departs (part_behind part x) x.rest r later) (same_element bytes f e at is) departs)
element-kept rules _ _ e is itself inner after _ _ asked (inside part bytes f r later at opened departs) =
    inner r later asked
    (subst (λ (x : Element). IsInside part x r later) (same_element bytes f e at is)
    (record { opened = opened; departs = departs }))
