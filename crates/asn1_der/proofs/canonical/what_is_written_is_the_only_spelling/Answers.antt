use Rattle.asn1_der.proofs.OneOutput.{only_spelling}
use Rattle.asn1_der.proofs.canonical.what_is_written_is_the_only_spelling.Goals as goal

pub returns : goal.returns
returns g c = λ same. only_spelling g.T.AsnType.meaning g.T.PartialEq.eq same
