use Rattle.std.proofs.Common.{◌-◌, length, arith, sym, ◌∙◌}
use Rattle.std.proofs.lemmas.Grind.{common_steps}
use Rattle.std.proofs.lemmas.Bool.Decides.{nat_tests}
use Rattle.asn1_report.proofs.Numbers.{integer-minus, none-too_large}
use Rattle.asn1_report.proofs.number.read_integer.Goals as goal

pub returns-in_err-read_magnitude-in-45 : goal.returns-in_err-read_magnitude-in-45
returns-in_err-read_magnitude-in-45 c =
    let text = c.args.text.now in
    let value = integer-minus text (length text - 1) (omega arith) (omega arith) (omega arith) in
    record { read = c.from_residual.ensures ∙ sym (value ∙ none-too_large _ _ c.in_err-read_magnitude-in-45.ensures.read) }

pub returns-in_ok-read_magnitude-in-45 : goal.returns-in_ok-read_magnitude-in-45
returns-in_ok-read_magnitude-in-45 c =
    let text = c.args.text.now in
    let value = integer-minus text (length text - 1) (omega arith) (omega arith) (omega arith) in
    let magnitude = c.in_ok-read_magnitude-in-45.ensures.read in
    record { read = grind (arith, common_steps, nat_tests) }
