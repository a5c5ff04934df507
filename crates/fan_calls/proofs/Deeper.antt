-- Elements that lie deeper than the depth: among the first and the others.
use Rattle.std.proofs.Common.{◌≡◌, ◌<◌, ℕ, List, Some, length, arith, sym, subst, ◌∙◌}
use Rattle.asn1_der_items.proofs.TrailingBytes.{element_at-shorter}
use Rattle.asn1_der_items.specs.Elements.{Element, element_at}
use Rattle.fan_calls.specs.Depths.{HasElement, first, later}

some_is : {A : Type 0} {x y : A} → Some x ≡ Some y → x ≡ y
some_is e = cc

-- This holds of one of the others, if not of the first element.
pub in_others : (Holds : Element → Type 0) (bytes : List ℕ) (e : Element) → element_at bytes ≡ Some e → ¬ Holds e → HasElement Holds bytes → HasElement Holds e.rest
in_others Holds bytes e at not (first _ d found holds) = absurd (not (subst Holds (some_is (sym found ∙ at)) holds))
in_others Holds bytes e at not (later _ d found others) = subst (λ (x : Element). HasElement Holds x.rest) (some_is (sym found ∙ at)) others

-- No octet holds an element where none begins.
pub in_none : (Holds : Element → Type 0) (bytes : List ℕ) → ((e : Element) → element_at bytes ≡ Some e → ⊥) → ¬ HasElement Holds bytes
in_none Holds bytes none (first _ d found holds) = none d found
in_none Holds bytes none (later _ d found others) = none d found

-- Octets that hold an element are not empty.
pub some_octets : (Holds : Element → Type 0) (bytes : List ℕ) → HasElement Holds bytes → 0 < length bytes
some_octets Holds bytes (first _ d found holds) = omega (arith, element_at-shorter bytes d found)
some_octets Holds bytes (later _ d found others) = omega (arith, element_at-shorter bytes d found)
