use Rattle.asn1_contents.proofs.DayTimes.{date_times}
use Rattle.asn1_contents.proofs.laws.octets_of_date_times_are_their_digits.Goals as goal

pub returns : goal.returns
returns c = date_times
