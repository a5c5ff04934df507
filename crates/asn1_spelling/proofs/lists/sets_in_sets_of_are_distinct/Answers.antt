use Rattle.asn1_types.proofs.DistinctSets.{sets_distinct}
use Rattle.asn1_spelling.proofs.lists.sets_in_sets_of_are_distinct.Goals as goal

pub returns : goal.returns
returns g c = λ own. sets_distinct (λ set. set) g.T.AsnType.meaning own
