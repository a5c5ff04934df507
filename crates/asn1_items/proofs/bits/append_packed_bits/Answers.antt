use Rattle.asn1_items.proofs.PackedBits.{both_appended, packed}
use Rattle.asn1_items.proofs.bits.append_packed_bits.Goals as goal

pub returns : goal.returns
returns c =
    both_appended c.extend_from_slice.result c.args.bits.now c.args.bytes.now.items c.push.new.self.items c.extend_from_slice.new.self.items c.octets.result.now c.unused_bits.result
    c.in_ok-push.ensures.items c.extend_from_slice.ensures.items
    (packed c.args.bits.now c.octets.result.now c.unused_bits.result c.unused_bits.ensures.few c.unused_bits.ensures.whole c.octets.ensures.bits c.octets.ensures.fewest)
