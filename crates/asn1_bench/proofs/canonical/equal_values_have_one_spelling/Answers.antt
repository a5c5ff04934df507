use Rattle.asn1_bench.proofs.OneOutput.{equal_spelling}
use Rattle.asn1_bench.specs.declared.marks.PresenceMarks.{PresenceMarks}
use Rattle.asn1_items.specs.Items.{packed_marks}
use Rattle.asn1_bench.proofs.canonical.equal_values_have_one_spelling.Goals as goal

pub returns : goal.returns
returns g c = λ same. equal_spelling packed_marks PresenceMarks g.T.AsnType.meaning g.T.PartialEq.eq same
