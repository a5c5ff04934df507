use Rattle.asn1_contents.proofs.Days.{dates}
use Rattle.asn1_contents.proofs.laws.octets_of_dates_are_their_digits.Goals as goal

pub returns : goal.returns
returns c = dates
