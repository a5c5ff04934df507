-- Values of the types in the circle of `Category` are valid if those inside them are.
use Rattle.std.specs.Prelude.{ℕ, Bool, List, get_or}
use Rattle.asn1_circles.specs.Words.{Meaning}
use Rattle.expressions.specs.Validity.{EachIsValid}
use Rattle.expressions.specs.CategoryLists.{category_of_meaning}
use Rattle.expressions.specs.declared.category_of.CategoryOf.{CategoryOf}

pub category_of_is_valid : {T : Type 0} (m : Meaning T) → EachIsValid m → (accepts : List ℕ → Bool) (v : CategoryOf T) → (category_of_meaning m).IsValid accepts v
category_of_is_valid m each accepts v = (tt, ((λ k0 d0 few0. each accepts (get_or v.children.items k0 d0)), tt))
