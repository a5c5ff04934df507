use Rattle.std.proofs.Common.{arith}
use Rattle.std.proofs.lemmas.Grind.{common_steps}
use Rattle.std.proofs.lemmas.Bool.Decides.{nat_tests}
use Rattle.asn1_report.proofs.Numbers.{digits_value-split, digits_value-last, digits-split}
use Rattle.asn1_report.proofs.number.read_u128.Goals as goal

pub returns-in_err-high : goal.returns-in_err-high
returns-in_err-high c =
    let text = c.args.text.now in
    let k = c.saturating_sub.result in
    let digits = digits-split text k in
    let value = digits_value-split text k c.saturating_sub.ensures in
    let high = c.in_err-high.ensures.read in
    record { read = grind (arith, common_steps, nat_tests) }

pub returns-in_err-low : goal.returns-in_err-low
returns-in_err-low c =
    let text = c.args.text.now in
    let k = c.saturating_sub.result in
    let digits = digits-split text k in
    let small = digits_value-last text k c.saturating_sub.ensures in
    let low = c.in_err-low.ensures.read in
    record { read = grind (arith, common_steps, nat_tests) }

pub returns : goal.returns
returns c =
    let text = c.args.text.now in
    let k = c.saturating_sub.result in
    let digits = digits-split text k in
    let value = digits_value-split text k c.saturating_sub.ensures in
    let high = c.in_ok-high.ensures.read in
    let low = c.in_ok-low.ensures.read in
    record { read = (grind (arith, common_steps, nat_tests), grind (arith, common_steps, nat_tests)) }
