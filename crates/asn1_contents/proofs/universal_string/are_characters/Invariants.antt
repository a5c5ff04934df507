use Rattle.std.proofs.Common.{◌≡◌, length}
use Rattle.asn1_contents.specs.UniversalStrings.{is_universal_string}
use Rattle.asn1_contents.proofs.universal_string.are_characters.Given as goal

abbrev pub invariant-loop-left : goal.invariant-loop-left
invariant-loop-left l = record { same : is_universal_string l.left ≡ is_universal_string l.fn.octets }

abbrev pub decreases-loop-left : goal.decreases-loop-left
decreases-loop-left l = length l.left
