use Rattle.std.proofs.Common.{List, [], ◌∷◌, ℕ, Bool}
use Rattle.std.specs.Prelude.{All}
use Rattle.std.proofs.lemmas.List.Elements.{All-nil, All-cons}
use Rattle.asn1_samples.specs.contracts.personnel.child_information.ChildInformationAsnType.TheImpl.{ghosts as child_type}
use Rattle.asn1_samples.specs.declared.personnel.child_information.ChildInformation.{ChildInformation}
use Rattle.asn1_samples.proofs.personnel.record.personnel_record_is_valid.Goals as goal

-- each child is valid
children_valid : (accepts : List ℕ → Bool) (children : List ChildInformation) → All (child_type.meaning.IsValid accepts) children
children_valid accepts [] = All-nil (child_type.meaning.IsValid accepts)
children_valid accepts (child ∷ children) =
    All-cons (child_type.meaning.IsValid accepts) child children ((tt, (tt, (tt, tt))), (tt, tt)) (children_valid accepts children)

pub returns : goal.returns
returns c = λ accepts.
    ((tt, (tt, (tt, tt))), (tt, (tt, (tt, ((tt, (tt, (tt, tt))), ((λ _. children_valid accepts c.args.person.now.children.items), tt))))))
