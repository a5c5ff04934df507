use Rattle.std.proofs.Common.{◌≡◌, ℕ, ◌^◌, ◌<◌, ◌≤◌, List, MatchOption, drop, ◌-◌, length, arith, sym, Option, Some, None, Bor}
use Rattle.std.proofs.lemmas.Grind.{common_steps}
use Rattle.std.proofs.lemmas.Bool.Decides.{nat_tests}
use Rattle.std.specs.List.{prefix_len, take_while}
use Rattle.std.specs.Char.{is_ascii_digit}
use Rattle.std.specs.Str.Parse.{digits_value}
use Rattle.asn1_report.specs.NamesAndNumbers.{BeginsWithNumber}
use Rattle.asn1_report.proofs.Numbers.{number-value, number-bounds, number-lone_zero, zero-begins, digits-begin}
use Rattle.asn1_report.proofs.number.read_number.Goals as goal

pub returns-in-48 : goal.returns-in-48
returns-in-48 c = record {
  begins = λ number left begins.
      let lone = number-lone_zero c.args.text.now (length c.args.text.now - 1) number left begins (omega arith) (omega arith) in
      cc;
}

pub returns-in-48-2 : goal.returns-in-48-2
returns-in-48-2 c = record { begins = zero-begins c.args.text.now _ (omega arith) (omega arith) (omega arith) (sym c.if-begins_with_digit.ensures.digit) }

pub returns-in-49-to-57 : goal.returns-in-49-to-57
returns-in-49-to-57 c = record { begins = by_result c.read_digits.result c.read_digits.ensures.digits }
  where
    by_result : (r : Option (ℕ × Bor (List ℕ))) →
        MatchOption r (2 ^ 32 ≤ digits_value 10 (take_while is_ascii_digit c.args.text.now))
        (λ (number, left). (number ≡ digits_value 10 (take_while is_ascii_digit c.args.text.now)) × (number < 2 ^ 32) × (left.now ≡ drop (prefix_len is_ascii_digit c.args.text.now) c.args.text.now)) →
        MatchOption r ((number : ℕ) (left : List ℕ) → ¬ BeginsWithNumber c.args.text.now number left)
        (λ (number, left). BeginsWithNumber c.args.text.now number left.now)
    by_result None large = λ number left begins. omega (arith, number-value c.args.text.now number left begins, begins.small, large)
    by_result (Some (number, left)) read = digits-begin c.args.text.now number left.now (omega arith) (omega arith) (omega arith) read.0 read.1 read.2

pub returns-in_default : goal.returns-in_default
returns-in_default c = record {
  begins = λ number left begins.
      let bounds = number-bounds c.args.text.now number left begins in
      grind (arith, common_steps, nat_tests);
}
