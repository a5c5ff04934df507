use Rattle.std.proofs.Common.{refl}
use Rattle.asn1_der_items.proofs.Complements.{negative_only, negative_read}
use Rattle.asn1_der_items.proofs.integers.read_integer.Goals as goal

pub returns-then-is_high : goal.returns-then-is_high
returns-then-is_high c = record {
  read = λ z is. negative_read _ c.args.octets.now c.read_negative.result z (c.is_high.ensures.high c.if-is_high.true) is c.read_negative.ensures;
  only = negative_only _ c.args.octets.now c.read_negative.result (c.is_high.ensures.high c.if-is_high.true) (c.if-not-is_shortest.ensures.0 refl) c.read_negative.ensures;
}
