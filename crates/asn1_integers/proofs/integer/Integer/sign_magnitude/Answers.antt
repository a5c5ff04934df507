use Rattle.std.proofs.Common.{◌∙◌, ap}
use Rattle.asn1_integers.specs.Numbers.{signed}
use Rattle.asn1_integers.proofs.Signs.{signed-unsigned_abs}
use Rattle.asn1_integers.proofs.integer.Integer.sign_magnitude.Goals as goal

pub returns-clause-number : goal.returns-clause-number
returns-clause-number c =
    ap (signed c.is_negative.result) c.in_ok-magnitude_bytes.ensures.number ∙ signed-unsigned_abs c.is_negative.result c.args.self.now c.is_negative.ensures
