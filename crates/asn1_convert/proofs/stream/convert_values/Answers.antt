use Rattle.std.proofs.Common.{◌≡◌, ◌+◌, suc, arith, subst, sym}
use Rattle.asn1_convert.proofs.Converting.{less_left}
use Rattle.asn1_convert.specs.Conversions.{HaveConverted, none, one_more}
use Rattle.asn1_convert.proofs.stream.convert_values.Goals as goal

pub loop-rest-init : goal.loop-rest-init
loop-rest-init g c =
    let input = c.args.input.now in
    (subst (λ l. HaveConverted g.T.AsnType.meaning g.T.PartialEq.eq g.T.Decode.refusals c.args.depth c.args.from c.args.to input input l 0) (sym c.new-output.ensures.items) none, omega arith)

pub loop-rest-smaller : goal.loop-rest-smaller
loop-rest-smaller g c = less_left g.T.AsnType.meaning g.T.PartialEq.eq g.T.Decode.refusals c.args.depth c.args.from c.args.to c.in-Ok.ensures

pub loop-rest-preserved : goal.loop-rest-preserved
loop-rest-preserved g c =
    let m = g.T.AsnType.meaning in
    let eq = g.T.PartialEq.eq in
    let a = c.args in
    let next : suc c.loop-rest.before ≡ c.loop-rest.before + 1 = omega arith in (
      subst (λ n. HaveConverted m eq g.T.Decode.refusals a.depth a.from a.to a.input.now c.in-Ok.behind.now c.convert_front.new.output.items n) next (one_more c.loop-rest.invariant.0 c.in-Ok.ensures),
      omega (arith, c.loop-rest.invariant.1, less_left m eq g.T.Decode.refusals a.depth a.from a.to c.in-Ok.ensures),
    )
