use Rattle.std.proofs.Common.{subst, sym}
use Rattle.asn1_convert.proofs.Converting.{not_converted}
use Rattle.asn1_convert.specs.Forms.{IsFront}
use Rattle.asn1_convert.proofs.stream.convert_front.Goals as goal

pub returns-in-Err-append_value : goal.returns-in-Err-append_value
returns-in-Err-append_value g c =
    let input = c.args.input.now in
    let octets = c.split_at.result.0.now in (
      c.in-Err-append_value.ensures.0,
      c.in-Ok.ensures,
      not_converted g.T.AsnType.meaning g.T.PartialEq.eq g.T.Decode.refusals c.args.depth c.args.from c.args.to input octets c.split_at.result.1.now c.in-Err-append_value.cause
          c.split_at.ensures.by_index.0 (subst (λ n. IsFront c.args.from input n) (sym c.split_at.ensures.front_len) c.in-Ok.ensures) c.in-Err-append_value.ensures.1,
    )
