use Rattle.asn1_types.proofs.WrittenAlike.{sets_alike}
use Rattle.asn1_spelling.proofs.lists.equal_sets_of_are_written_alike.Goals as goal

pub returns : goal.returns
returns g c = λ alike. sets_alike (λ set. set) g.T.AsnType.meaning g.met.T.PartialEq.laws alike
