use Rattle.std.proofs.Common.{◌+◌, arith}
use Rattle.std.proofs.lemmas.Int.Digits.{number_more}
use Rattle.asn1_integers.proofs.Digits.{magnitude-take_le}
use Rattle.asn1_integers.proofs.magnitude.to_u128.Goals as goal

-- the number so far does not fit with one more byte, so the whole does not
pub returns-in_err-number : goal.returns-in_err-number
returns-in_err-number c =
    let bytes = c.args.bytes.now in
    let i = c.loop-byte.byte-index in
    rw c.from_residual.ensures
    (λ fits. c.in_err-number.ensures (omega (arith, number_more 256 bytes i (omega arith), magnitude-take_le bytes (i + 1))))

pub loop-byte-preserved : goal.loop-byte-preserved
loop-byte-preserved c =
    let more = number_more 256 c.args.bytes.now c.loop-byte.byte-index (omega arith) in
    (omega arith, omega arith)
