use Rattle.std.proofs.Common.{subst, sym}
use Rattle.asn1_strings.proofs.TrailingZeros.{ends}
use Rattle.asn1_strings.specs.Bits.{EndsInOne}
use Rattle.asn1_strings.proofs.strings.named_bits.NamedBitString.new.Goals as goal

pub invariant_of-result : goal.invariant_of-result
invariant_of-result c = subst EndsInOne (sym c.without_trailing_zeros.ensures) (ends c.args.bits)
