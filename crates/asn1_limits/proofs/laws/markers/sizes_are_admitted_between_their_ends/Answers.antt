use Rattle.std.proofs.Common.{length}
use Rattle.asn1_limits.proofs.GrowingSizes.{growing_between, growing_from}
use Rattle.asn1_limits.proofs.laws.markers.sizes_are_admitted_between_their_ends.Goals as goal

pub returns-clause-named_bits : goal.returns-clause-named_bits
returns-clause-named_bits g c = λ v. growing_between g.row.A g.row.B (length v)

pub returns-clause-named_bits_from : goal.returns-clause-named_bits_from
returns-clause-named_bits_from g c = λ v. growing_from g.row.A (length v)
