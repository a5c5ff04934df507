use Rattle.std.proofs.Common.{◌≡◌, true, false, length, refl, arith}
use Rattle.asn1_strings.proofs.TrailingZeros.{as_many, ends_so}
use Rattle.asn1_strings.proofs.strings.named_bits.NamedBitString.of_bits.Goals as goal

pub invariant_of-result : goal.invariant_of-result
invariant_of-result c =
    let all : c.significant_len.result ≡ length c.args.bits = omega (arith, c.if-significant_len-len.true, c.len.ensures) in
    ends_so c.args.bits c.significant_len.result all c.significant_len.ensures.zeros

pub returns-then-significant_len-len-clause-some : goal.returns-then-significant_len-len-clause-some
returns-then-significant_len-len-clause-some c =
    let all : c.significant_len.result ≡ length c.args.bits = omega (arith, c.if-significant_len-len.true, c.len.ensures) in
    (λ yes. ends_so c.args.bits c.significant_len.result all c.significant_len.ensures.zeros, λ one. refl)

pub returns-else-significant_len-len-clause-some : goal.returns-else-significant_len-len-clause-some
returns-else-significant_len-len-clause-some c = (
  λ wrong. let no : false ≡ true = wrong in cc,
  λ one. absurd (omega (arith, c.if-significant_len-len.false, c.len.ensures, as_many c.args.bits c.significant_len.result c.significant_len.ensures.within c.significant_len.ensures.zeros one)),
)
