use Rattle.asn1_convert.proofs.Digits.{AreReadTo}
use Rattle.asn1_convert.proofs.hexadecimal.octets_of_digits.Given as goal

abbrev pub invariant-loop-position : goal.invariant-loop-position
invariant-loop-position l = AreReadTo l.text l.position l.octets.items l.high
