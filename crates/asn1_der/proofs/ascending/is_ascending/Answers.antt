use Rattle.std.proofs.Common.{rules, ◌∙◌, sym, refl, arith}
use Rattle.asn1_der.proofs.AscendingElements.{as_found, begin, further, goes, next_found, none_after}
use Rattle.asn1_der_items.proofs.TrailingBytes.{element_at-shorter}
use Rattle.asn1_items.proofs.DecodeStates.{not_both}
use Rattle.asn1_der.proofs.ascending.is_ascending.Goals as goal

pub loop-before-init : goal.loop-before-init
loop-before-init c = begin c.args.order c.args.contents.now

pub returns-in_default : goal.returns-in_default
returns-in_default c = (
  λ e. cc,
  λ are.
      absurd (next_found c.args.order c.loop-before.before.bytes.now c.loop-before.left.now (c.loop-before.invariant.ahead are) (λ none. search rules)
      (λ e at. let wrong = c.in_default.ensures.found e at in cc)),
)

pub slice_bounds-own-count : goal.slice_bounds-own-count
slice_bounds-own-count c = omega (arith, element_at-shorter c.loop-before.left.now _ c.in-Ok.ensures.only)

pub returns-then-precedes : goal.returns-then-precedes
returns-then-precedes c = (
  λ e. cc,
  λ are.
      let i = c.loop-before.invariant in
      let g = goes c.args.order c.loop-before.before.bytes.now c.loop-before.left.now _ (i.ahead are) (λ none. search rules) c.in-Ok.ensures.only in
      let f = as_found c.args.order c.loop-before.left.now _ c.in-Ok.ensures.only in
      absurd (not_both c.precedes.result (c.precedes.ensures f.its_tag i.its_tag ∙ g.above) c.if-precedes.true),
)

pub loop-before-smaller : goal.loop-before-smaller
loop-before-smaller c = element_at-shorter c.loop-before.left.now _ c.in-Ok.ensures.only

pub loop-before-preserved : goal.loop-before-preserved
loop-before-preserved c =
    let i = c.loop-before.invariant in
    let f = as_found c.args.order c.loop-before.left.now _ c.in-Ok.ensures.only in
    further c.args.order c.args.contents.now c.loop-before.before.tag c.loop-before.before.bytes.now c.loop-before.left.now _ i (λ none. search rules) c.in-Ok.ensures.only
    (sym (c.precedes.ensures f.its_tag i.its_tag) ∙ c.if-precedes.false)

pub returns : goal.returns
returns c = (λ e. c.loop-before.invariant.back (none_after c.args.order c.loop-before.before.bytes.now c.loop-before.left.now (sym c.is_empty.ensures ∙ c.loop-before-test.false)), λ are. refl)
