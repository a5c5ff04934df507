use Rattle.std.proofs.Common.{arith}
use Rattle.asn1_der_items.proofs.CutIdentifiers.{cut_empty}
use Rattle.asn1_der_items.proofs.identifiers.read_identifier.Goals as goal

pub returns-in_default-clause-missing : goal.returns-in_default-clause-missing
returns-in_default-clause-missing c = (λ missing. cut_empty c.args.bytes.now (omega (arith, c.in_default.len_below)), λ early. tt)
