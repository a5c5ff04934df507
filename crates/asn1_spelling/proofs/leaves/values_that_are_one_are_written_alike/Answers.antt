use Rattle.asn1_model.proofs.WrittenAlike.{alike_if_one}
use Rattle.asn1_spelling.proofs.leaves.values_that_are_one_are_written_alike.Goals as goal

pub returns : goal.returns
returns g c = λ one. alike_if_one g.T.AsnType.meaning one
