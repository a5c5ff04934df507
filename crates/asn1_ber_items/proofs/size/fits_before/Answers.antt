use Rattle.std.proofs.Common.{refl, ◌∙◌, arith}
use Rattle.asn1_ber_items.proofs.CutHeaders.{all_zeros, fewer_zeros, one_zero}
use Rattle.asn1_ber_items.proofs.size.fits_before.Goals as goal

pub loop-zero-preserved : goal.loop-zero-preserved
loop-zero-preserved c = record {
  is = c.in-Some.ensures.1 ∙ one_zero c.args.number c.loop-zero.shifted c.loop-zero._zero c.loop-zero.invariant.is;
  fits = omega (arith, c.in-Some.ensures.0, c.in-Some.ensures.1);
}

pub returns-in-None : goal.returns-in-None
returns-in-None c = (
  λ wrong. cc,
  λ small. absurd (c.in-None.ensures (omega (arith, fewer_zeros c.args.number c.loop-zero.shifted c.loop-zero._zero c.args.zeros c.loop-zero.invariant.is c.loop-zero-test.true small))),
)

pub returns : goal.returns
returns c = (
  λ yes. all_zeros c.args.number c.loop-zero.shifted c.loop-zero._zero c.args.zeros c.loop-zero.invariant.is (omega (arith, c.loop-zero-test.false, c.loop-zero.auto._zero-end)) c.loop-zero.invariant.fits,
  λ small. refl,
)
