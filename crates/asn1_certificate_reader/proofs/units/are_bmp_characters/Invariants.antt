use Rattle.std.proofs.Common.{◌≡◌, length}
use Rattle.asn1_certificate_reader.specs.Units.{are_bmp_characters}
use Rattle.asn1_certificate_reader.proofs.units.are_bmp_characters.Given as goal

abbrev pub invariant-loop-left : goal.invariant-loop-left
invariant-loop-left l = record { same : are_bmp_characters l.left ≡ are_bmp_characters l.fn.octets }

abbrev pub decreases-loop-left : goal.decreases-loop-left
decreases-loop-left l = length l.left
