use Rattle.asn1_model.proofs.DistinctSets.{lists_distinct}
use Rattle.asn1_model.specs.ConstraintSets.{unconstrained}
use Rattle.asn1_spelling.proofs.lists.sets_in_lists_are_distinct.Goals as goal

pub returns : goal.returns
returns g c = λ own. lists_distinct (λ v. v.items) unconstrained g.T.AsnType.meaning own
