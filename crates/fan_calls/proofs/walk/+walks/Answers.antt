use Rattle.std.proofs.Common.{◌<◌, ◌∙◌, ℕ, arith, length, refl, subst, sym}
use Rattle.std.proofs.lemmas.Bool.{true≢false}
use Rattle.asn1_der_items.proofs.TrailingBytes.{element_at-shorter, parts_fit}
use Rattle.asn1_der_items.specs.Elements.{element_of}
use Rattle.asn1_der_items.specs.Faults.{AreElementsDownTo, IsFirstFault, behind, here, none_left, one_more}
use Rattle.fan_calls.specs.Depths.{HoldsDeeper, NestsDeeper, first, later}
use Rattle.fan_calls.proofs.Deeper.{in_others}
use Rattle.fan_calls.proofs.Walking.{fault_within, found_inside, found_none, found_primitive, in_first, no_deeper, no_octets, none_begins, some_octets_left}
use Rattle.fan_calls.proofs.walk.+walks.Goals.{walk_inside-then-not-element-via-then-not-element, walk_inside-then-not-element-via-else-not-element+then-is_empty, walk_through-in-Deeper, walk_through-in-Elements}
use Rattle.fan_calls.proofs.walk.+walks.Goals as goal

pub walk_inside-returns-then-not-element : goal.walk_inside-returns-then-not-element
walk_inside-returns-then-not-element t c =
    let e = element_of c.args.element in
    elim c.then-not-element.branch [
      | walk_inside-then-not-element-via-then-not-element w ↦ found_primitive e c.args.depth (λ form. true≢false (sym form ∙ w.if-not-element.true))
      | walk_inside-then-not-element-via-else-not-element+then-is_empty w ↦ found_none e c.args.depth (no_octets c.args.element.contents.now (sym w.if-is_empty.true ∙ w.is_empty.ensures))
    ]

pub walk_inside-returns : goal.walk_inside-returns
walk_inside-returns t c =
    found_inside (element_of c.args.element) c.args.depth c.walk_through.result c.if-depth-eq0.false c.if-not-element.false c.walk_through.ensures

pub walk_through-returns-in_default : goal.walk_through-returns-in_default
walk_through-returns-in_default t c =
    let left = c.loop-left.left.now in
    let none = none_begins left (λ e at. true≢false (sym (c.in_default.ensures.found e at))) in
    subst (λ (p : ℕ). IsFirstFault c.args.depth c.args.bytes.now p) (omega arith)
    (c.loop-left.invariant.faults 0 (here c.args.depth left (some_octets_left left c.loop-left-test.ensures) none))

pub walk_through-overflow_sub-behind : goal.walk_through-overflow_sub-behind
walk_through-overflow_sub-behind t c = fault_within c.in-Fault.ensures.below _ _ c.in-Fault.ensures.fault

pub walk_through-overflow_sub-result-in-Fault : goal.walk_through-overflow_sub-result-in-Fault
walk_through-overflow_sub-result-in-Fault t c =
    omega (arith, parts_fit c.loop-left.left.now (element_of c.in-Ok.element) c.in-Ok.ensures.only, c.loop-left.invariant.fits)

pub walk_through-returns-in-Fault : goal.walk_through-returns-in-Fault
walk_through-returns-in-Fault t c =
    let left = c.loop-left.left.now in
    let e = element_of c.in-Ok.element in
    let fits = parts_fit left e c.in-Ok.ensures.only in
    let within = fault_within c.in-Fault.ensures.below _ _ c.in-Fault.ensures.fault in
    subst (λ (p : ℕ). IsFirstFault c.args.depth c.args.bytes.now p) (omega (arith, fits, within, c.loop-left.invariant.fits))
    (c.loop-left.invariant.faults _ (in_first c.args.depth left e c.in-Fault.position _ c.in-Ok.ensures.only c.in-Fault.ensures refl))

pub walk_through-loop-left-smaller : goal.walk_through-loop-left-smaller
walk_through-loop-left-smaller t c = element_at-shorter c.loop-left.left.now (element_of c.in-Ok.element) c.in-Ok.ensures.only

pub walk_through-loop-left-preserved : goal.walk_through-loop-left-preserved
walk_through-loop-left-preserved t c =
    let left = c.loop-left.left.now in
    let e = element_of c.in-Ok.element in
    let at = c.in-Ok.ensures.only in
    let shorter : length c.in-Ok.element.rest.now < length left = element_at-shorter left e at in
    let fits = c.loop-left.invariant.fits in
    elim c.match-walk_inside.branch [
      | walk_through-in-Deeper w ↦ record {
        fits = omega (arith, fits, shorter);
        faults = λ position fault. subst (λ (p : ℕ). IsFirstFault c.args.depth c.args.bytes.now p) (omega (arith, fits, shorter))
            (c.loop-left.invariant.faults _ (behind c.args.depth left e position at w.in-Deeper.ensures.0 fault));
        elements = λ rest. c.loop-left.invariant.elements (one_more left e at w.in-Deeper.ensures.0 rest);
        deeper = λ lies. c.loop-left.invariant.deeper (later left e at lies);
        found = λ _. c.loop-left.invariant.deeper (first left e at w.in-Deeper.ensures.1);
        ahead = λ not. absurd (true≢false (sym w.is_deep-is ∙ not));
      }
      | walk_through-in-Elements w ↦ record {
        fits = omega (arith, fits, shorter);
        faults = λ position fault. subst (λ (p : ℕ). IsFirstFault c.args.depth c.args.bytes.now p) (omega (arith, fits, shorter))
            (c.loop-left.invariant.faults _ (behind c.args.depth left e position at w.in-Elements.ensures.0 fault));
        elements = λ rest. c.loop-left.invariant.elements (one_more left e at w.in-Elements.ensures.0 rest);
        deeper = λ lies. c.loop-left.invariant.deeper (later left e at lies);
        found = λ is. c.loop-left.invariant.found (sym w.is_deep-is ∙ is);
        ahead = λ not lies. in_others (HoldsDeeper c.args.depth) left e at w.in-Elements.ensures.1 (c.loop-left.invariant.ahead (sym w.is_deep-is ∙ not) lies);
      }
    ]

pub walk_through-returns-then-is_deep : goal.walk_through-returns-then-is_deep
walk_through-returns-then-is_deep t c = (
  c.loop-left.invariant.elements (subst (AreElementsDownTo c.args.depth) (sym (no_octets c.loop-left.left.now c.loop-left-test.ensures)) none_left),
  c.loop-left.invariant.found c.if-is_deep.true,
)

pub walk_through-returns-else-is_deep : goal.walk_through-returns-else-is_deep
walk_through-returns-else-is_deep t c = (
  c.loop-left.invariant.elements (subst (AreElementsDownTo c.args.depth) (sym (no_octets c.loop-left.left.now c.loop-left-test.ensures)) none_left),
  λ lies. no_deeper c.args.depth (subst (NestsDeeper c.args.depth) (no_octets c.loop-left.left.now c.loop-left-test.ensures)
      (c.loop-left.invariant.ahead c.if-is_deep.false lies)),
)
