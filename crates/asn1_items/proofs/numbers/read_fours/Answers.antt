use Rattle.std.specs.Prelude.{◌==◌}
use Rattle.std.proofs.Common.{ℕ, List, length, sym, ap, ◌∙◌, arith}
use Rattle.asn1_items.proofs.Fours.{all_of, none_left, none_of, one_of, starts, step}
use Rattle.asn1_items.proofs.Octets.{rest_is}
use Rattle.asn1_items.proofs.Twos.{empty_is}
use Rattle.std.proofs.Math.Facts.{Fits-lt-pow}
use Rattle.asn1_items.proofs.numbers.read_fours.Goals as goal

pub loop-left-init : goal.loop-left-init
loop-left-init c = record {
  so_far = starts c.args.bytes.now c.new-numbers.result.items c.new-numbers.ensures.items;
  of = none_of c.args.bytes.now c.new-numbers.result.items c.new-numbers.ensures.items;
}

pub loop-left-preserved : goal.loop-left-preserved
loop-left-preserved c = record {
  so_far = λ list are.
      step c.loop-left.numbers.items c.loop-left.left.now list _ _ c.from_be_bytes.result c.in_default-push.ensures.items c.in-len4-up.len_at_least (rest_is 4 c.loop-left.left.now c.in-len4-up.len_at_least) c.from_be_bytes.ensures (c.loop-left.invariant.so_far list are);
  of =
      one_of c.args.bytes.now c.loop-left.numbers.items c.loop-left.left.now _ _ c.from_be_bytes.result c.in_default-push.ensures.items c.in-len4-up.len_at_least (rest_is 4 c.loop-left.left.now c.in-len4-up.len_at_least) (omega arith)
      (λ i. Fits-lt-pow (c.type_inv.bytes i)) c.from_be_bytes.ensures c.loop-left.invariant.of;
}

pub returns-then-not-is_empty-clause-read : goal.returns-then-not-is_empty-clause-read
returns-then-not-is_empty-clause-read c = λ list are.
    let none = (none_left c.loop-left.numbers.items c.loop-left.left.now list c.in_default.len_below (c.loop-left.invariant.so_far list are)).0 in
    let empty = ap (λ (x : List ℕ). length x == 0) none in
    cc

pub returns-clause-read : goal.returns-clause-read
returns-clause-read c = λ list are. (none_left c.loop-left.numbers.items c.loop-left.left.now list c.in_default.len_below (c.loop-left.invariant.so_far list are)).1

pub returns-clause-only : goal.returns-clause-only
returns-clause-only c = all_of c.args.bytes.now c.loop-left.numbers.items c.loop-left.left.now (empty_is c.loop-left.left.now (sym c.is_empty.ensures ∙ c.if-not-is_empty.false)) c.loop-left.invariant.of
