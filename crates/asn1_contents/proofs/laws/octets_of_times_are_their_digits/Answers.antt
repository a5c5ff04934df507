use Rattle.asn1_contents.proofs.Days.{times}
use Rattle.asn1_contents.proofs.laws.octets_of_times_are_their_digits.Goals as goal

pub returns : goal.returns
returns c = times
