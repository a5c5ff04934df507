use Rattle.std.proofs.Common.{◌≡◌, take}
use Rattle.asn1_certificate_reader.proofs.characters.visible_characters.Given as goal

abbrev pub invariant-loop-octet : goal.invariant-loop-octet
invariant-loop-octet l = l.characters.items ≡ take l.octet-index l.octets
