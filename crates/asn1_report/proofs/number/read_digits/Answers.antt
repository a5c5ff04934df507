use Rattle.std.proofs.Common.{◌∙◌, sym, arith}
use Rattle.std.proofs.lemmas.Grind.{common_steps}
use Rattle.asn1_report.proofs.Numbers.{next_digit-value, next_digit-left, le-next_digit}
use Rattle.asn1_report.proofs.number.read_digits.Goals as goal

pub returns-in_err-checked_mul : goal.returns-in_err-checked_mul
returns-in_err-checked_mul c =
    let grown = le-next_digit c.loop-left.number c.loop-left.left.now (omega arith) (omega arith) (omega arith) in
    record { digits = grind (arith, common_steps) }

pub returns-in_err-number : goal.returns-in_err-number
returns-in_err-number c =
    let grown = le-next_digit c.loop-left.number c.loop-left.left.now (omega arith) (omega arith) (omega arith) in
    record { digits = grind (arith, common_steps) }

pub loop-left-preserved : goal.loop-left-preserved
loop-left-preserved c = record {
  value =
      sym (next_digit-value c.loop-left.number c.in_ok-number.number c.loop-left.left.now _ (omega arith) (omega arith) (omega arith) (omega arith) (omega arith))
      ∙ c.loop-left.invariant.value;
  left = sym (next_digit-left c.loop-left.left.now _ (omega arith) (omega arith) (omega arith) (omega arith)) ∙ c.loop-left.invariant.left;
  small = omega arith;
}
