use Rattle.asn1_certificate_text.proofs.Digits.{written_digits}
use Rattle.asn1_certificate_text.proofs.moment.TwoDigitsDisplay.fmt.Goals as goal

pub returns-clause-writes : goal.returns-clause-writes
returns-clause-writes g c = λ plain ok. rw (written_digits c.args.self.now.0) at (c.write.ensures.writes plain ok)
