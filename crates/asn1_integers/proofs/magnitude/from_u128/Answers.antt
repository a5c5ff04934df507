use Rattle.std.proofs.Common.{◌∙◌, ap, arith}
use Rattle.asn1_integers.specs.Numbers.{magnitude}
use Rattle.asn1_integers.proofs.Digits.{magnitude-bytes_high_first}
use Rattle.asn1_integers.proofs.magnitude.from_u128.Goals as goal

pub returns : goal.returns
returns c = ap magnitude c.to_be_bytes.ensures ∙ magnitude-bytes_high_first 16 c.args.number (omega arith)
