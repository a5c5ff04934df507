use Rattle.asn1_bench.proofs.OneOutput.{only_spelling}
use Rattle.asn1_tagform.specs.Next.{no_marks}
use Rattle.asn1_tagform.specs.declared.next_item.NextItem.{NextItem}
use Rattle.asn1_tagform.proofs.canonical.what_is_written_is_the_only_spelling.Goals as goal

pub returns : goal.returns
returns g c = λ same. only_spelling no_marks NextItem g.T.AsnType.meaning g.T.PartialEq.eq same
