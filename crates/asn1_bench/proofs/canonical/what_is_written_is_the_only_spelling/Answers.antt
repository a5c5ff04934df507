use Rattle.asn1_bench.proofs.OneOutput.{only_spelling}
use Rattle.asn1_bench.specs.declared.marks.PresenceMarks.{PresenceMarks}
use Rattle.asn1_items.specs.Items.{packed_marks}
use Rattle.asn1_bench.proofs.canonical.what_is_written_is_the_only_spelling.Goals as goal

pub returns : goal.returns
returns g c = λ same. only_spelling packed_marks PresenceMarks g.T.AsnType.meaning g.T.PartialEq.eq same
