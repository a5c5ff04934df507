use Rattle.asn1_model.proofs.WrittenAlike.{lists_alike}
use Rattle.asn1_model.specs.ConstraintSets.{unconstrained}
use Rattle.asn1_spelling.proofs.lists.equal_lists_are_written_alike.Goals as goal

pub returns : goal.returns
returns g c = λ alike. lists_alike (λ v. v.items) unconstrained g.T.AsnType.meaning alike
