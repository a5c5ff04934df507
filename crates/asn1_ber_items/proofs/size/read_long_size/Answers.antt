use Rattle.std.proofs.Common.{arith}
use Rattle.asn1_ber_items.proofs.CutHeaders.{early_long, long_early}
use Rattle.asn1_ber_items.proofs.size.read_long_size.Goals as goal

pub returns-in_default-clause-missing : goal.returns-in_default-clause-missing
returns-in_default-clause-missing c = (
  λ missing. long_early c.args.count c.args.octets.now (omega (arith, c.in_default.ensures.cases)) (c.error_of_cut.ensures.0 missing),
  λ early. c.error_of_cut.ensures.1 (early_long c.args.count c.args.octets.now (omega (arith, c.in_default.ensures.cases)) early),
)
