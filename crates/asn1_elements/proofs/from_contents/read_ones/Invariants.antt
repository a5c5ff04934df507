use Rattle.std.proofs.Common.{◌≡◌, take}
use Rattle.asn1_elements.proofs.from_contents.read_ones.Given as goal

abbrev pub invariant-loop-octet : goal.invariant-loop-octet
invariant-loop-octet l = l.units.items ≡ take l.octet-index l.octets
