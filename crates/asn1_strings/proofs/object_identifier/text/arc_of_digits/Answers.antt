use Rattle.asn1_strings.proofs.DottedTexts.{arc_of_digits-parsed}
use Rattle.asn1_strings.proofs.object_identifier.text.arc_of_digits.Goals as goal

pub returns-in-Ok : goal.returns-in-Ok
returns-in-Ok c =
    rw c.in-Ok.is at (arc_of_digits-parsed c.args.digits.now c.parse.result c.parse.ensures.value.0 c.requires.some c.requires.all_digits)

pub returns-in-Err : goal.returns-in-Err
returns-in-Err c =
    rw c.in-Err.is at (arc_of_digits-parsed c.args.digits.now c.parse.result c.parse.ensures.value.0 c.requires.some c.requires.all_digits)
