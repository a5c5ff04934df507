-- Elements in ascending order, and the positions of those that are not.
use Rattle.std.proofs.Common.{◌≡◌, ℕ, ◌≤◌, List, None, Some, arith, false, length, subst}
use Rattle.asn1_certificate_rules.specs.Sets.{IsInOrder, IsOutOfOrder, behind, precedes, second}
use Rattle.asn1_der_items.proofs.TrailingBytes.{element_at-shorter}
use Rattle.asn1_der_items.specs.Elements.{Element, element_at}

-- what bytes begin with is one element
pub same_element : (bytes : List ℕ) (d e : Element) → element_at bytes ≡ Some d → element_at bytes ≡ Some e → d ≡ e
same_element bytes d e one two = cc

-- an element out of order is in the bytes
pub out_of_order-within : (bytes : List ℕ) (position : ℕ) → IsOutOfOrder bytes position → position ≤ length bytes
out_of_order-within _ _ (second bytes e f at next before) = omega arith
out_of_order-within _ _ (behind bytes e later at out) = omega (arith, out_of_order-within e.rest later out, element_at-shorter bytes e at)

-- bytes that begin with no element are in order
pub no_element-in_order : (bytes : List ℕ) → element_at bytes ≡ None → IsInOrder bytes
no_element-in_order _ none _ (second bytes e f at next before) = cc
no_element-in_order _ none _ (behind bytes e later at out) = cc

-- and so are those that begin with one, and no second
pub one_element-in_order : (bytes : List ℕ) (e : Element) → element_at bytes ≡ Some e → element_at e.rest ≡ None → IsInOrder bytes
one_element-in_order _ e at none _ (second bytes d f other next before) =
    let same : d ≡ e = same_element bytes d e other at in cc
one_element-in_order _ e at none _ (behind bytes d later other out) =
    no_element-in_order e.rest none later (subst (λ (x : Element). IsOutOfOrder x.rest later) (same_element bytes d e other at) out)

-- and those that begin with an element before another in order
pub more_elements-in_order : (bytes : List ℕ) (e f : Element) → element_at bytes ≡ Some e → element_at e.rest ≡ Some f → precedes bytes e f ≡ false →
    IsInOrder e.rest → IsInOrder bytes
more_elements-in_order _ e f at next not order _ (second bytes d g other after before) =
    let same : d ≡ e = same_element bytes d e other at in
    let same_next : g ≡ f = same_element e.rest g f (subst (λ (x : Element). element_at x.rest ≡ Some g) same after) next in cc
more_elements-in_order _ e f at next not order _ (behind bytes d later other out) =
    order later (subst (λ (x : Element). IsOutOfOrder x.rest later) (same_element bytes d e other at) out)
