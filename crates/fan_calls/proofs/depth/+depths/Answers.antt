use Rattle.std.proofs.Common.{refl, sym, ◌∙◌}
use Rattle.std.proofs.lemmas.Bool.{true≢false}
use Rattle.asn1_der_items.proofs.TrailingBytes.{element_at-shorter}
use Rattle.asn1_der_items.specs.Elements.{element_of}
use Rattle.fan_calls.specs.Depths.{HoldsDeeper, first, later}
use Rattle.fan_calls.proofs.Deeper.{in_none, in_others}
use Rattle.fan_calls.proofs.depth.+depths.Goals as goal

pub nests_deeper-returns-then-holds_deeper : goal.nests_deeper-returns-then-holds_deeper
nests_deeper-returns-then-holds_deeper t c = (
  λ _. c.loop-element.invariant.found (first c.loop-element.left.now (element_of c.in-Ok.element) c.in-Ok.ensures.only (c.holds_deeper.ensures.0 c.if-holds_deeper.true)),
  λ _. refl,
)

pub nests_deeper-loop-element-smaller : goal.nests_deeper-loop-element-smaller
nests_deeper-loop-element-smaller t c = element_at-shorter c.loop-element.left.now (element_of c.in-Ok.element) c.in-Ok.ensures.only

pub nests_deeper-loop-element-preserved : goal.nests_deeper-loop-element-preserved
nests_deeper-loop-element-preserved t c =
    let e = element_of c.in-Ok.element in
    record {
      found = λ others. c.loop-element.invariant.found (later c.loop-element.left.now e c.in-Ok.ensures.only others);
      ahead = λ deeper. in_others (HoldsDeeper c.args.depth) c.loop-element.left.now e c.in-Ok.ensures.only
          (λ holds. true≢false (sym (c.holds_deeper.ensures.1 holds) ∙ c.if-holds_deeper.false)) (c.loop-element.invariant.ahead deeper);
    }

pub nests_deeper-returns : goal.nests_deeper-returns
nests_deeper-returns t c = (
  λ impossible. absurd (true≢false (sym impossible)),
  λ deeper. absurd (in_none (HoldsDeeper c.args.depth) c.loop-element.left.now (λ e at. true≢false (sym (c.in_default.ensures.found e at)))
      (c.loop-element.invariant.ahead deeper)),
)
