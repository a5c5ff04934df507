use Rattle.std.proofs.Common.{◌≡◌, ◌*◌, length, take}
use Rattle.asn1_items.specs.Bits.{bits_of_octets}
use Rattle.asn1_items.proofs.bits.write_bits.Given as goal

abbrev pub invariant-loop-index : goal.invariant-loop-index
invariant-loop-index l = record {
  so_far : take (l.index * 8) l.bits ≡ bits_of_octets (take l.index l.octets);
  long : length l.bits ≡ length l.octets * 8;
}
