use Rattle.std.proofs.Common.{◌≡◌, ◌<◌, ℕ, List, arith, length, subst, sym, ◌∙◌}
use Rattle.asn1_certificate_rules.proofs.BrokenRulePositions.{none_found}
use Rattle.asn1_certificate_rules.proofs.SetOrders.{more_elements-in_order, no_element-in_order, one_element-in_order}
use Rattle.asn1_certificate_rules.specs.Sets.{IsOutOfOrder, behind, second}
use Rattle.asn1_der_items.proofs.TrailingBytes.{element_at-shorter}
use Rattle.asn1_der_items.specs.Elements.{element_of}
use Rattle.asn1_certificate_rules.proofs.sets.out_of_order.Goals as goal

-- the element out of order at another name of its position
at_position : (bytes : List ℕ) (position other : ℕ) → position ≡ other → IsOutOfOrder bytes position → IsOutOfOrder bytes other
at_position bytes position other same out = subst (λ (p : ℕ). IsOutOfOrder bytes p) same out

pub overflow_sub-result : goal.overflow_sub-result
overflow_sub-result c =
    let shorter : length c.in-Ok.first.rest.now < length c.loop-first.left.now = element_at-shorter c.loop-first.left.now (element_of c.in-Ok.first) c.in-Ok.ensures.only in
    omega (arith, c.loop-first.invariant.fits, shorter)

pub returns-then-precedes : goal.returns-then-precedes
returns-then-precedes c =
    let e = element_of c.in-Ok.first in
    let shorter : length c.in-Ok.first.rest.now < length c.loop-first.left.now = element_at-shorter c.loop-first.left.now e c.in-Ok.ensures.only in
    at_position c.args.contents.now _ _ (omega (arith, c.loop-first.invariant.fits, shorter))
    (c.loop-first.invariant.found _
    (second c.loop-first.left.now e (element_of c.in-Ok-find_element.second) c.in-Ok.ensures.only c.in-Ok-find_element.ensures.only (sym c.precedes.ensures ∙ c.if-precedes.true)))

pub returns-in_default-find_element : goal.returns-in_default-find_element
returns-in_default-find_element c =
    c.loop-first.invariant.kept
    (one_element-in_order c.loop-first.left.now (element_of c.in-Ok.first) c.in-Ok.ensures.only
    (none_found c.in-Ok.first.rest.now c.in_default-find_element.ensures.found))

pub returns : goal.returns
returns c = c.loop-first.invariant.kept (no_element-in_order c.loop-first.left.now (none_found c.loop-first.left.now c.in_default.ensures.found))

pub loop-first-smaller : goal.loop-first-smaller
loop-first-smaller c = element_at-shorter c.loop-first.left.now (element_of c.in-Ok.first) c.in-Ok.ensures.only

pub loop-first-preserved : goal.loop-first-preserved
loop-first-preserved c =
    let e = element_of c.in-Ok.first in
    let shorter : length c.in-Ok.first.rest.now < length c.loop-first.left.now = element_at-shorter c.loop-first.left.now e c.in-Ok.ensures.only in
    record {
      fits = omega (arith, c.loop-first.invariant.fits, shorter);
      found = λ position out. at_position c.args.contents.now _ _ (omega (arith, c.loop-first.invariant.fits, shorter))
          (c.loop-first.invariant.found _ (behind c.loop-first.left.now e position c.in-Ok.ensures.only out));
      kept = λ order. c.loop-first.invariant.kept
          (more_elements-in_order c.loop-first.left.now e (element_of c.in-Ok-find_element.second) c.in-Ok.ensures.only c.in-Ok-find_element.ensures.only
          (sym c.precedes.ensures ∙ c.if-precedes.false) order);
    }
