use Rattle.std.proofs.Common.{◌≡◌, ◌<◌, ◌^◌, take}
use Rattle.asn1_values.specs.Numbers.{magnitude}
use Rattle.asn1_der_items.proofs.lengths.number_of.Given as goal

abbrev pub invariant-loop-byte : goal.invariant-loop-byte
invariant-loop-byte l = (l.number ≡ magnitude (take l.byte-index l.bytes)) × (l.number < 2 ^ 64)
