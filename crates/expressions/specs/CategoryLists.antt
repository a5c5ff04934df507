-- The lists of the types in the circle of `Category`, by what it means inside them.
use Rattle.std.specs.Prelude.{[], ◌∷◌, codes}
use Rattle.asn1_circles.specs.Words.{ComponentType, Components, Meaning, constructed_type, context, list_meaning, required, sequence, tagged}
use Rattle.expressions.specs.contracts.category_parts.CategoryOfNamePartMeant.TheImpl.{ghosts as category_of_name_part}
use Rattle.expressions.specs.declared.category_of.CategoryOf.{CategoryOf}

abbrev pub category_of_has_children : {T : Type 0} → Meaning T → ComponentType (CategoryOf T)
category_of_has_children {T} m = required (codes "children") (λ v. v.children) (tagged (context 1) (list_meaning m))

abbrev pub category_of_components : {T : Type 0} → Meaning T → Components (CategoryOf T)
category_of_components {T} m = sequence (
    required (codes "name") (λ v. v.name) (tagged (context 0) category_of_name_part.meaning) ∷
    category_of_has_children m ∷ [])

abbrev pub category_of_meaning : {T : Type 0} → Meaning T → Meaning (CategoryOf T)
category_of_meaning m = constructed_type (codes "Category") (category_of_components m)
