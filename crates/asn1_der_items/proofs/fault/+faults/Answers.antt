use Rattle.std.specs.Bool.{◌==◌}
use Rattle.std.proofs.Common.{◌≡◌, ◌≢◌, [], ◌∷◌, ◌<◌, ℕ, IfNone, List, Option, None, Some, length, false, true, arith, sym}
use Rattle.std.proofs.lemmas.Bool.{eqb-true}
use Rattle.asn1_der_items.specs.Elements.{element_of}
use Rattle.asn1_der_items.proofs.TrailingBytes.{element_at-shorter, parts_fit}
use Rattle.asn1_der_items.proofs.FaultPositions.{at_position, from_inside, holds_inside, is_within}
use Rattle.asn1_der_items.proofs.Reached.{none_found}
use Rattle.asn1_der_items.specs.Faults.{AreElementsDownTo, here, behind, none_left, one_more}
use Rattle.asn1_der_items.proofs.fault.+faults.Goals as goal

-- nothing is an error and a success
never : false ≡ true → ⊥
never same = cc

-- a list whose length is not 0
some_left : (bytes : List ℕ) → false ≡ (length bytes == 0) → bytes ≢ []
some_left [] test is = absurd (never test)
some_left (b ∷ bytes) test is = cc

-- a list whose length is 0
nothing_left : (depth : ℕ) (bytes : List ℕ) → true ≡ (length bytes == 0) → AreElementsDownTo depth bytes
nothing_left depth [] test = none_left
nothing_left depth (b ∷ bytes) test = absurd (omega (arith, eqb-true (length (b ∷ bytes)) 0 (sym test)))

-- what follows where there is none
none_weaker : {A P Q : Type 0} (o : Option A) → (P → Q) → IfNone o P → IfNone o Q
none_weaker None f p = f p
none_weaker (Some a) f p = p

pub fault_inside-returns-clause-none : goal.fault_inside-returns-clause-none
fault_inside-returns-clause-none t c =
    none_weaker c.first_fault.result (holds_inside c.args.depth (element_of c.args.element) c.if-depth-eq0.false) c.first_fault.ensures.none

pub first_fault-returns-in_default-clause-fault : goal.first_fault-returns-in_default-clause-fault
first_fault-returns-in_default-clause-fault t c =
    let none = none_found c.loop-left.left.now c.in_default.ensures.found in
    at_position c.args.depth c.args.bytes.now _ _ (omega arith)
    (c.loop-left.invariant.faults 0 (here c.args.depth c.loop-left.left.now (some_left c.loop-left.left.now c.loop-left-test.ensures) none))

pub first_fault-overflow_sub-behind : goal.first_fault-overflow_sub-behind
first_fault-overflow_sub-behind t c = is_within c.in-Some.ensures.fault.below _ _ c.in-Some.ensures.fault.fault

pub first_fault-overflow_sub-result-in-Some : goal.first_fault-overflow_sub-result-in-Some
first_fault-overflow_sub-result-in-Some t c =
    omega (arith, parts_fit c.loop-left.left.now (element_of c.in-Ok.element) c.in-Ok.ensures.only, c.loop-left.invariant.fits)

pub first_fault-returns-in-Some-clause-fault : goal.first_fault-returns-in-Some-clause-fault
first_fault-returns-in-Some-clause-fault t c =
    let e = element_of c.in-Ok.element in
    let fits = parts_fit c.loop-left.left.now e c.in-Ok.ensures.only in
    let within = is_within c.in-Some.ensures.fault.below _ _ c.in-Some.ensures.fault.fault in
    at_position c.args.depth c.args.bytes.now _ _ (omega (arith, fits, within, c.loop-left.invariant.fits))
    (c.loop-left.invariant.faults _ (from_inside c.args.depth c.loop-left.left.now e c.in-Some.position c.in-Ok.ensures.only c.in-Some.ensures.fault))

pub first_fault-loop-left-smaller : goal.first_fault-loop-left-smaller
first_fault-loop-left-smaller t c = element_at-shorter c.loop-left.left.now (element_of c.in-Ok.element) c.in-Ok.ensures.only

pub first_fault-loop-left-preserved : goal.first_fault-loop-left-preserved
first_fault-loop-left-preserved t c =
    let e = element_of c.in-Ok.element in
    let at = c.in-Ok.ensures.only in
    let holds = c.in_default-fault_inside.ensures.none in
    let shorter : length c.in-Ok.element.rest.now < length c.loop-left.left.now = element_at-shorter c.loop-left.left.now e at in
    record {
      fits = omega (arith, c.loop-left.invariant.fits, shorter);
      faults = λ position fault. at_position c.args.depth c.args.bytes.now _ _ (omega (arith, c.loop-left.invariant.fits, shorter))
          (c.loop-left.invariant.faults _ (behind c.args.depth c.loop-left.left.now e position at holds fault));
      elements = λ rest. c.loop-left.invariant.elements (one_more c.loop-left.left.now e at holds rest);
    }

pub first_fault-returns-clause-none : goal.first_fault-returns-clause-none
first_fault-returns-clause-none t c = c.loop-left.invariant.elements (nothing_left c.args.depth c.loop-left.left.now c.loop-left-test.ensures)
