use Rattle.std.proofs.Common.{◌+◌, ◌*◌, ◌≤◌, ◌^◌, get_or, drop, arith}
use Rattle.std.proofs.lemmas.Grind.{common_steps}
use Rattle.std.proofs.lemmas.Bool.Decides.{nat_tests}
use Rattle.std.proofs.lemmas.List.{at_drop_more}
use Rattle.std.specs.Char.{digit_value}
use Rattle.std.specs.Str.Parse.{digits_value, digits_value_after}
use Rattle.asn1_report.proofs.Numbers.{le-digits_value_after}
use Rattle.asn1_report.proofs.number.read_u64.Goals as goal

pub returns-in_err-checked_mul : goal.returns-in_err-checked_mul
returns-in_err-checked_mul c =
    let l = c.loop-byte in
    let ds = c.args.text.now in
    let i = l.byte-index in
    let turn = at_drop_more (digits_value_after 10 l.number) ds i 0 c.loop-byte-test.true in
    let grown = le-digits_value_after 10 (l.number * 10 + digit_value (get_or ds i 0)) (drop (i + 1) ds) (omega arith) in
    let large : 2 ^ 64 ≤ digits_value 10 ds = grind (arith, common_steps) in
    record { read = grind (arith, nat_tests, common_steps) }

pub returns-in_err-number : goal.returns-in_err-number
returns-in_err-number c =
    let l = c.loop-byte in
    let ds = c.args.text.now in
    let i = l.byte-index in
    let turn = at_drop_more (digits_value_after 10 l.number) ds i 0 c.loop-byte-test.true in
    let grown = le-digits_value_after 10 (l.number * 10 + digit_value (get_or ds i 0)) (drop (i + 1) ds) (omega arith) in
    let large : 2 ^ 64 ≤ digits_value 10 ds = grind (arith, common_steps, nat_tests) in
    record { read = grind (arith, nat_tests, common_steps) }
