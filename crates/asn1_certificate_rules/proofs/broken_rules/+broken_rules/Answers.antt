use Rattle.std.proofs.Common.{◌-◌, ◌<◌, arith, length, refl, rules, subst, sym}
use Rattle.asn1_certificate_rules.proofs.BrokenRulePositions.{none_found}
use Rattle.asn1_certificate_rules.proofs.Findings.{asked-moved, finds-behind, finds-below, finds-inside, finds-moved_none, finds-moved_twice, finds-within_moved}
use Rattle.asn1_certificate_rules.proofs.KeptRules.{element-kept, empty-kept, header-kept}
use Rattle.asn1_certificate_rules.specs.Departures.{KeepsRules, here, in_header}
use Rattle.asn1_certificate_rules.specs.Findings.{Finds, IsAsked}
use Rattle.asn1_certificate_rules.specs.declared.finding.Finding.TheVariants.{Broken}
use Rattle.asn1_certificate_rules.specs.declared.notation.Part.{Part}
use Rattle.asn1_der_items.proofs.TrailingBytes.{element_at-shorter, parts_fit}
use Rattle.asn1_der_items.specs.Elements.{element_of}
use Rattle.asn1_certificate_rules.proofs.broken_rules.+broken_rules.Goals as goal

pub find_broken_rule-returns-in_err-broken_header-clause-found : goal.find_broken_rule-returns-in_err-broken_header-clause-found
find_broken_rule-returns-in_err-broken_header-clause-found t c =
    rw c.from_residual.ensures
    (c.loop-left.invariant.kept
    (header-kept c.args.rules c.loop-left.place c.loop-left.left.now (none_found c.loop-left.left.now c.in_default.ensures.found)
    c.in_err-broken_header.ensures.broken))

pub find_broken_rule-returns-in_default-clause-found : goal.find_broken_rule-returns-in_default-clause-found
find_broken_rule-returns-in_default-clause-found t c =
    let none = none_found c.loop-left.left.now c.in_default.ensures.found in
    let d = c.in_ok-broken_header.field-0 in
    subst (Finds c.args.depth c.args.part c.args.bytes.now) (sym c.after.ensures)
    (c.loop-left.invariant.findings (Broken d)
    (in_header c.loop-left.place c.loop-left.left.now d.rule d.position none c.in_ok-broken_header.ensures.broken))

pub find_broken_rule-after-requires-in-Some : goal.find_broken_rule-after-requires-in-Some
find_broken_rule-after-requires-in-Some t c =
    let d = c.in-Some.broken in
    omega (
      arith,
      finds-within_moved c.args.depth c.args.part c.args.bytes.now _ (Broken d)
          (c.loop-left.invariant.findings (Broken d)
          (here c.loop-left.place c.loop-left.left.now (element_of c.in-Ok.element) d.rule d.position c.in-Ok.ensures.only c.in-Some.ensures.broken)),
    )

pub find_broken_rule-returns-in-Some-clause-found : goal.find_broken_rule-returns-in-Some-clause-found
find_broken_rule-returns-in-Some-clause-found t c =
    let d = c.in-Some.broken in
    subst (Finds c.args.depth c.args.part c.args.bytes.now) (sym c.after-in-Some.ensures)
    (c.loop-left.invariant.findings (Broken d)
    (here c.loop-left.place c.loop-left.left.now (element_of c.in-Ok.element) d.rule d.position c.in-Ok.ensures.only c.in-Some.ensures.broken))

pub find_broken_rule-after-requires-in-Some-find_inside : goal.find_broken_rule-after-requires-in-Some-find_inside
find_broken_rule-after-requires-in-Some-find_inside t c =
    let f = c.in-Some-find_inside.finding in
    omega (
      arith,
      finds-within_moved c.args.depth c.args.part c.args.bytes.now _ f
          (finds-moved_twice c.args.depth c.args.part c.args.bytes.now _ _ _ f refl
          (c.loop-left.invariant.findings _
          (finds-inside c.loop-left.place c.loop-left.left.now (element_of c.in-Ok.element) c.in-Ok.ensures.only c.args.depth f
          c.in-Some-find_inside.ensures.found))),
    )

pub find_broken_rule-returns-in-Some-find_inside-clause-found : goal.find_broken_rule-returns-in-Some-find_inside-clause-found
find_broken_rule-returns-in-Some-find_inside-clause-found t c =
    let f = c.in-Some-find_inside.finding in
    subst (Finds c.args.depth c.args.part c.args.bytes.now) (sym c.after-in-Some-find_inside.ensures)
    (finds-moved_twice c.args.depth c.args.part c.args.bytes.now _ _ _ f refl
    (c.loop-left.invariant.findings _
    (finds-inside c.loop-left.place c.loop-left.left.now (element_of c.in-Ok.element) c.in-Ok.ensures.only c.args.depth f
    c.in-Some-find_inside.ensures.found)))

pub find_broken_rule-returns-in-Some-find_inside-clause-asked : goal.find_broken_rule-returns-in-Some-find_inside-clause-asked
find_broken_rule-returns-in-Some-find_inside-clause-asked t c =
    subst (IsAsked c.args.rules) (sym c.after-in-Some-find_inside.ensures)
    (asked-moved c.args.rules _ c.in-Some-find_inside.finding c.in-Some-find_inside.ensures.asked)

pub find_broken_rule-returns-clause-found : goal.find_broken_rule-returns-clause-found
find_broken_rule-returns-clause-found t c =
    c.loop-left.invariant.kept (empty-kept c.args.rules c.loop-left.place c.loop-left.left.now (search rules))

pub find_broken_rule-overflow_sub-header : goal.find_broken_rule-overflow_sub-header
find_broken_rule-overflow_sub-header t c = omega (arith, parts_fit c.loop-left.left.now (element_of c.in-Ok.element) c.in-Ok.ensures.only)

pub find_broken_rule-overflow_sub-header-in-loop-left : goal.find_broken_rule-overflow_sub-header-in-loop-left
find_broken_rule-overflow_sub-header-in-loop-left t c = omega (arith, parts_fit c.loop-left.left.now (element_of c.in-Ok.element) c.in-Ok.ensures.only)

pub find_broken_rule-loop-left-init : goal.find_broken_rule-loop-left-init
find_broken_rule-loop-left-init t c = record {
  fits = omega arith;
  findings = λ f finds. finds-moved_none c.args.depth c.args.part c.args.bytes.now _ f (omega arith) finds;
  kept = λ kept. kept;
}

pub find_broken_rule-loop-left-smaller : goal.find_broken_rule-loop-left-smaller
find_broken_rule-loop-left-smaller t c = element_at-shorter c.loop-left.left.now (element_of c.in-Ok.element) c.in-Ok.ensures.only

pub find_broken_rule-loop-left-preserved : goal.find_broken_rule-loop-left-preserved
find_broken_rule-loop-left-preserved t c =
    let e = element_of c.in-Ok.element in
    let at = c.in-Ok.ensures.only in
    let shorter : length c.in-Ok.element.rest.now < length c.loop-left.left.now = element_at-shorter c.loop-left.left.now e at in
    record {
      fits = omega (arith, c.loop-left.invariant.fits, shorter);
      findings = λ f finds. finds-moved_twice c.args.depth c.args.part c.args.bytes.now _ _ _ f (omega (arith, c.loop-left.invariant.fits, shorter))
          (c.loop-left.invariant.findings _ (finds-behind c.loop-left.place c.loop-left.left.now e at c.args.depth f
          (subst (λ part. Finds c.args.depth part c.in-Ok.element.rest.now f) c.behind-place.ensures finds)));
      kept = λ after. c.loop-left.invariant.kept
          (element-kept c.args.rules c.loop-left.place c.loop-left.left.now e at c.in_default-broken_rule.ensures.broken
          c.in_default-find_inside.ensures.found
          (subst (λ (place : Part). KeepsRules c.args.rules place c.in-Ok.element.rest.now) c.behind-place.ensures after));
    }

pub find_inside-returns-clause-found : goal.find_inside-returns-clause-found
find_inside-returns-clause-found t c =
    finds-below c.args.rules c.args.depth (c.args.depth - 1) c.args.part c.inside.result (element_of c.args.element) c.find_broken_rule.result
    (omega arith) c.inside.ensures (search rules) c.find_broken_rule.ensures.found
