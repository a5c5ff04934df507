use Rattle.asn1_bench.proofs.OneOutput.{equal_spelling}
use Rattle.asn1_tagform.specs.Next.{no_marks}
use Rattle.asn1_tagform.specs.declared.next_item.NextItem.{NextItem}
use Rattle.asn1_tagform.proofs.canonical.equal_values_have_one_spelling.Goals as goal

pub returns : goal.returns
returns g c = λ same. equal_spelling no_marks NextItem g.T.AsnType.meaning g.T.PartialEq.eq same
