use Rattle.std.proofs.Common.{◌≡◌, take}
use Rattle.asn1_contents.specs.UniversalStrings.{universal_octets}
use Rattle.asn1_contents.proofs.universal_string.octets_of.Given as goal

-- the octets of the characters so far
abbrev pub invariant-loop-character : goal.invariant-loop-character
invariant-loop-character l = l.octets.items ≡ universal_octets (take l.character-index l.character-items)
