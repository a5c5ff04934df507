use Rattle.std.proofs.Common.{arith}
use Rattle.asn1_values.specs.Numbers.{magnitude}
use Rattle.asn1_ber_items.proofs.CutHeaders.{no_smaller}
use Rattle.asn1_ber_items.proofs.size.error_of_cut.Goals as goal

pub returns-in_default-2 : goal.returns-in_default-2
returns-in_default-2 c = (
  λ missing. absurd missing,
  λ small. c.in_default.ensures (omega (arith, small, no_smaller (magnitude c.args.digits.now) c.args.missing)),
)
