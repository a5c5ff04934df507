-- The types inside a type, by the lists of its components and alternatives.
use mathlib.Core.Former.{Count}
use Rattle.std.proofs.Common.{◌≡◌, List, [], ◌∷◌, ◌++◌, ap, refl, ◌∙◌, sym}
use Rattle.std.specs.List.{flat_map}
use Rattle.std.proofs.lemmas.Grind.{flat_map-append}
use Rattle.asn1_resolved.specs.declared.components.Addition.{Addition, Component', Group', items_shown-the_row-Component-0, items_hidden-the_row-Component-0}
use Rattle.asn1_resolved.specs.declared.components.Addition.TheVariants.{Component as one, Group as group}
use Rattle.asn1_resolved.specs.declared.components.Alternatives.{Alternatives, Alternatives', out-Alternatives, Row_of-Alternative, end_of-Alternative, more_of-Alternative, items-the_row-Alternative, items_shown-the_row-Alternative-1}
use Rattle.asn1_resolved.specs.declared.components.Component.{Component}
use Rattle.asn1_resolved.specs.declared.components.Components.{Components, Components', out-Components, Row_of-Component, end_of-Component, more_of-Component, items-the_row-Component, Row_of-Addition, end_of-Addition, more_of-Addition, items-the_row-Addition, items_shown-the_row-Addition-2}
use Rattle.asn1_resolved.specs.declared.schema.Schema.{Schema}
use Rattle.asn1_resolved.specs.declared.types.TypeKind.{TypeKind}
use Rattle.asn1_resolved.specs.TypesInside.{types_in, types_in_components, types_in_row, types_in_additions, types_in_addition, types_in_alternatives, types_in_chosen, types_of}

in_row : {A : Type 0} (f : TypeKind → List A) (n : _) (row : Row_of-Component n) →
    flat_map f (types_in_row row) ≡ flat_map (λ component. flat_map f (types_in component.definition.kind)) (items-the_row-Component n row)
in_row f n end_of-Component = refl
in_row f n (more_of-Component name name_place place kind constraints usage rest) =
    flat_map-append f (types_in kind) (types_in_row rest) ∙ ap (λ l. flat_map f (types_in kind) ++ l) (in_row f _ rest)

in_additions : {A : Type 0} (f : TypeKind → List A) (n : _) (row : Row_of-Addition n) →
    flat_map f (types_in_additions row) ≡ flat_map (λ addition. flat_map f (types_in_addition addition)) (items-the_row-Addition n row)
in_additions f n end_of-Addition = refl
in_additions f n (more_of-Addition addition rest) =
    flat_map-append f (types_in_addition addition) (types_in_additions rest) ∙ ap (λ l. flat_map f (types_in_addition addition) ++ l) (in_additions f _ rest)

in_chosen : {A : Type 0} (f : TypeKind → List A) (n : _) (row : Row_of-Alternative n) →
    flat_map f (types_in_chosen row) ≡ flat_map (λ alternative. flat_map f (types_in alternative.definition.kind)) (items-the_row-Alternative n row)
in_chosen f n end_of-Alternative = refl
in_chosen f n (more_of-Alternative name name_place place kind constraints rest) =
    flat_map-append f (types_in kind) (types_in_chosen rest) ∙ ap (λ l. flat_map f (types_in kind) ++ l) (in_chosen f _ rest)

-- in a SEQUENCE or a SET
pub in_components : {A : Type 0} (f : TypeKind → List A) (components : Components) → flat_map f (types_in_components components) ≡
    flat_map (λ component. flat_map f (types_in component.definition.kind)) (out-Components components).root.items
    ++ flat_map (λ addition. flat_map f (types_in_addition addition)) (out-Components components).additions.items
unfolding out-Components denote.Hole.Carrier.out
in_components f (Components' s row e t additions) =
    let of_root = in_row f _ row ∙ ap (flat_map (λ component. flat_map f (types_in component.definition.kind))) (sym (items_shown-the_row-Component-0 s row)) in
    let of_additions = in_additions f _ additions ∙ ap (flat_map (λ addition. flat_map f (types_in_addition addition))) (sym (items_shown-the_row-Addition-2 t additions)) in
    flat_map-append f (types_in_row row) (types_in_additions additions) ∙ λ i. of_root i ++ of_additions i

-- in a CHOICE
pub in_alternatives : {A : Type 0} (f : TypeKind → List A) (alternatives : Alternatives) → flat_map f (types_in_alternatives alternatives) ≡
    flat_map (λ alternative. flat_map f (types_in alternative.definition.kind)) (out-Alternatives alternatives).root.items
    ++ flat_map (λ alternative. flat_map f (types_in alternative.definition.kind)) (out-Alternatives alternatives).additions.items
unfolding out-Alternatives denote.Hole.Carrier.out
in_alternatives f (Alternatives' s row e t additions) =
    let of_root = in_chosen f _ row ∙ ap (flat_map (λ alternative. flat_map f (types_in alternative.definition.kind))) (sym (items_shown-the_row-Alternative-1 s row)) in
    let of_additions = in_chosen f _ additions ∙ ap (flat_map (λ alternative. flat_map f (types_in alternative.definition.kind))) (sym (items_shown-the_row-Alternative-1 t additions)) in
    flat_map-append f (types_in_chosen row) (types_in_chosen additions) ∙ λ i. of_root i ++ of_additions i

-- in version brackets
abbrev row_of : Addition → (n : Count) × Row_of-Component n
row_of (Group' shape row) = (_, row)
row_of _ = (_, end_of-Component)

pub in_group : {A : Type 0} (f : TypeKind → List A) (v : _) →
    flat_map f (types_in_addition (group v)) ≡ flat_map (λ component. flat_map f (types_in component.definition.kind)) v.items
in_group f v =
    let row = row_of (group v) in
    in_row f row.0 row.1 ∙ ap (flat_map (λ component. flat_map f (types_in component.definition.kind))) (items_hidden-the_row-Component-0 v)

through : {A B C : Type 0} (f : B → List C) (g : A → List B) (xs : List A) → flat_map f (flat_map g xs) ≡ flat_map (λ x. flat_map f (g x)) xs
through f g [] = refl
through f g (x ∷ xs) = flat_map-append f (g x) (flat_map g xs) ∙ ap (λ l. flat_map f (g x) ++ l) (through f g xs)

-- in a schema
pub in_schema : {A : Type 0} (f : TypeKind → List A) (schema : Schema) → flat_map f (types_of schema) ≡
    flat_map (λ defined. flat_map f (types_in defined.definition.kind)) schema.types.items
    ++ flat_map (λ defined. flat_map f (types_in defined.definition.kind)) schema.values.items
in_schema f schema =
    let in_types = through f (λ defined. types_in defined.definition.kind) schema.types.items in
    let in_values = through f (λ defined. types_in defined.definition.kind) schema.values.items in
    flat_map-append f (flat_map (λ defined. types_in defined.definition.kind) schema.types.items)
    (flat_map (λ defined. types_in defined.definition.kind) schema.values.items)
    ∙ λ i. in_types i ++ in_values i
