use Rattle.std.proofs.Common.{◌≡◌, ◌∙◌, ◌-◌, ◌<◌, suc, length, take, ap, subst, sym, arith}
use Rattle.asn1_strings.proofs.TrailingZeros.{all_left, stops, zero_passed}
use Rattle.asn1_strings.specs.Bits.{EndsInOne, without_trailing_zeros}
use Rattle.asn1_strings.proofs.strings.bit_vec.BitVec.significant_len.Goals as goal

pub zeros-preserved : goal.zeros-preserved
zeros-preserved c =
    let bits = c.args.self.now in
    let n = c.zeros.count - 1 in
    let low : n < length bits = omega (arith, c.zeros.invariant.within, c.zeros-test.true) in
    let end : suc n ≡ c.zeros.count = omega (arith, c.zeros-test.true) in
    record {
      within = omega (arith, low);
      left = zero_passed bits n low (sym c.bit.ensures ∙ c.if-bit.false) ∙ ap (λ k. without_trailing_zeros (take k bits)) end ∙ c.zeros.invariant.left;
    }

pub returns-then-bit-clause-zeros : goal.returns-then-bit-clause-zeros
returns-then-bit-clause-zeros c =
    let bits = c.args.self.now in
    let n = c.zeros.count - 1 in
    let low : n < length bits = omega (arith, c.zeros.invariant.within, c.zeros-test.true) in
    let end : suc n ≡ c.zeros.count = omega (arith, c.zeros-test.true) in
    all_left bits c.zeros.count (subst (λ k. EndsInOne (take k bits)) end (stops bits n low (sym c.bit.ensures ∙ c.if-bit.true))) c.zeros.invariant.left
