use Rattle.asn1_certificate_text.proofs.Digits.{number_of_digits}
use Rattle.asn1_certificate_text.proofs.moment.number.Goals as goal

pub returns : goal.returns
returns c = λ n small are. number_of_digits n c.args.tens c.args.ones small are
