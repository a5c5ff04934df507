-- The positions of faults.
use Rattle.std.proofs.Common.{◌≡◌, ◌≢◌, ℕ, zero, suc, ◌+◌, ◌-◌, ◌≤◌, List, [], None, Some, true, arith, length, refl, subst, sym}
use Rattle.asn1_der_items.proofs.TrailingBytes.{element_at-shorter, parts_fit}
use Rattle.asn1_der_items.specs.Elements.{Element, element_at}
use Rattle.asn1_der_items.specs.Faults.{AreElementsDownTo, HoldsElements, IsFaultInside, IsFirstFault, here, behind, inside, none_left, one_more}

-- the depth below another
lower : (depth : ℕ) → suc depth - 1 ≡ depth
lower depth = omega arith

-- a fault is in the bytes
pub is_within : (depth : ℕ) (bytes : List ℕ) (position : ℕ) → IsFirstFault depth bytes position → position ≤ length bytes
is_within _ _ _ (here depth bytes some none) = omega arith
is_within _ _ _ (behind depth bytes e later at holds fault) = omega (arith, is_within depth e.rest later fault, element_at-shorter bytes e at)
is_within _ _ _ (inside below bytes e later at form fault) = omega (arith, is_within below e.contents later fault, parts_fit bytes e at)

-- the fault at another name of its position
pub at_position : (depth : ℕ) (bytes : List ℕ) (position other : ℕ) → position ≡ other → IsFirstFault depth bytes position → IsFirstFault depth bytes other
at_position depth bytes position other same fault = subst (λ (p : ℕ). IsFirstFault depth bytes p) same fault

-- what is inside an element, one deeper
pub holds_inside : (depth : ℕ) (e : Element) → depth ≢ 0 → AreElementsDownTo (depth - 1) e.contents → HoldsElements depth e
holds_inside zero e some elements = tt
holds_inside (suc depth) e some elements = λ _. subst (λ (d : ℕ). AreElementsDownTo d e.contents) (lower depth) elements

pub fault_inside : (depth : ℕ) (e : Element) (position : ℕ) → depth ≢ 0 → e.constructed ≡ true → IsFirstFault (depth - 1) e.contents position → IsFaultInside depth e position
fault_inside zero e position some form fault = absurd (some refl)
fault_inside (suc depth) e position some form fault = record { below = depth; deeper = refl; constructed = form; fault = subst (λ (d : ℕ). IsFirstFault d e.contents position) (lower depth) fault }

-- an element that holds no others
pub holds_none : (depth : ℕ) (e : Element) → (e.constructed ≡ true → ⊥) → HoldsElements depth e
holds_none zero e not = tt
holds_none (suc depth) e not = λ form. absurd (not form)

-- what is found inside the element with which bytes begin, in the bytes
pub from_inside : (depth : ℕ) (bytes : List ℕ) (e : Element) (position : ℕ) → element_at bytes ≡ Some e → IsFaultInside depth e position →
    IsFirstFault depth bytes (length bytes - length e.rest - length e.contents + position)
from_inside depth bytes e position at f =
    subst (λ (d : ℕ). IsFirstFault d bytes (length bytes - length e.rest - length e.contents + position)) (sym f.deeper) (inside f.below bytes e position at f.constructed f.fault)

-- what is found is one element
same_element : (bytes : List ℕ) (d e : Element) → element_at bytes ≡ Some d → element_at bytes ≡ Some e → d ≡ e
same_element bytes d e one two = cc

-- bytes that have a fault are no elements
pub not_elements : (depth : ℕ) (bytes : List ℕ) (position : ℕ) → IsFirstFault depth bytes position → AreElementsDownTo depth bytes → ⊥
not_elements _ _ _ (here depth bytes some none) elements = at_end bytes some none elements
  where
    at_end : (bytes : List ℕ) → bytes ≢ [] → element_at bytes ≡ None → AreElementsDownTo depth bytes → ⊥
    at_end _ some none none_left = some refl
    at_end _ some none (one_more bytes e at holds rest) = cc
not_elements _ _ _ (behind depth bytes e position at holds fault) elements = by bytes elements at (not_elements depth e.rest position fault)
  where
    by : (bytes : List ℕ) → AreElementsDownTo depth bytes → element_at bytes ≡ Some e → (AreElementsDownTo depth e.rest → ⊥) → ⊥
    by _ none_left at not = cc
    by _ (one_more bytes d found holds rest) at not = not (subst (λ (g : Element). AreElementsDownTo depth g.rest) (same_element bytes d e found at) rest)
not_elements _ _ _ (inside depth bytes e position at form fault) elements = by bytes elements at (not_elements depth e.contents position fault)
  where
    by : (bytes : List ℕ) → AreElementsDownTo (suc depth) bytes → element_at bytes ≡ Some e → (AreElementsDownTo depth e.contents → ⊥) → ⊥
    by _ none_left at not = cc
    by _ (one_more bytes d found holds rest) at not = not (subst (λ (g : Element). HoldsElements (suc depth) g) (same_element bytes d e found at) holds form)
