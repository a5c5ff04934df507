use Rattle.std.proofs.Common.{◌≡◌, ◌<◌, ◌^◌, take}
use Rattle.asn1_integers.specs.Numbers.{magnitude}
use Rattle.asn1_integers.proofs.magnitude.to_u128.Given as goal

abbrev pub invariant-loop-byte : goal.invariant-loop-byte
invariant-loop-byte l = (l.number ≡ magnitude (take l.byte-index l.bytes)) × (l.number < 2 ^ 128)
