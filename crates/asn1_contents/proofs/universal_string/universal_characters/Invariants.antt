use Rattle.std.proofs.Common.{◌≡◌, length}
use Rattle.asn1_contents.specs.UniversalStrings.{universal_characters}
use Rattle.asn1_contents.proofs.CharactersOfOctets.{before}
use Rattle.asn1_contents.proofs.universal_string.universal_characters.Given as goal

abbrev pub invariant-loop-left : goal.invariant-loop-left
invariant-loop-left l = record { so_far : before l.characters.items (universal_characters l.left) ≡ universal_characters l.fn.octets }

abbrev pub decreases-loop-left : goal.decreases-loop-left
decreases-loop-left l = length l.left
