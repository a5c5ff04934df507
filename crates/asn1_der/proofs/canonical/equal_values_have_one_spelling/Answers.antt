use Rattle.asn1_der.proofs.OneOutput.{equal_spelling, one_spelling}
use Rattle.asn1_der.proofs.canonical.equal_values_have_one_spelling.Goals as goal

pub returns-clause-same_records : goal.returns-clause-same_records
returns-clause-same_records g c = one_spelling g.T.AsnType.meaning

pub returns-clause-equal : goal.returns-clause-equal
returns-clause-equal g c = λ same. equal_spelling g.T.AsnType.meaning g.T.PartialEq.eq same
