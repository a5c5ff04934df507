use Rattle.std.proofs.Common.{◌≢◌, ◌-◌, ◌∙◌, arith, rules}
use Rattle.std.proofs.lemmas.List.{get_or-set_other}
use Rattle.asn1_der_items.proofs.Complements.{all_negated, negated}
use Rattle.asn1_der_items.proofs.integers.negate.Goals as goal

pub loop-i-preserved : goal.loop-i-preserved
loop-i-preserved c = record {
  within = omega arith;
  bit = omega arith;
  as_long = search rules;
  untouched = λ k below. (let other : k ≢ c.loop-i.i - 1 = (λ e. omega (arith, e)) in get_or-set_other c.loop-i.octets _ k _ 0 other ∙ c.loop-i.invariant.untouched k (omega arith));
  sum = negated c.loop-i.octets c.args.octets.now c.loop-i.i _ c.loop-i.carry _ (omega arith) c.loop-i.invariant.within c.loop-i.invariant.as_long (c.loop-i.invariant.untouched _ (omega arith)) (omega arith) c.loop-i.invariant.sum;
}

pub returns : goal.returns
returns c = λ some. all_negated c.loop-i.octets c.args.octets.now c.loop-i.i c.loop-i.carry (omega arith) c.loop-i.invariant.bit c.loop-i.invariant.as_long c.loop-i.invariant.sum some
