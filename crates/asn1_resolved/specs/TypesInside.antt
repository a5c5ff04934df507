-- The types inside a type.
use Rattle.std.specs.Prelude.{List, [], ◌∷◌, ◌++◌}
use Rattle.std.specs.List.{flat_map}
use Rattle.asn1_resolved.specs.declared.types.TypeKind.{TypeKind, Sequence, Set, Choice, SequenceOf', SetOf', Tagged'}
use Rattle.asn1_resolved.specs.declared.components.Components.{Components, Components', Row_of-Component, end_of-Component, more_of-Component, Row_of-Addition, end_of-Addition, more_of-Addition}
use Rattle.asn1_resolved.specs.declared.components.Alternatives.{Alternatives, Alternatives', Row_of-Alternative, end_of-Alternative, more_of-Alternative}
use Rattle.asn1_resolved.specs.declared.components.Addition.{Addition, Component', Group'}
use Rattle.asn1_resolved.specs.declared.schema.Schema.{Schema}

-- A type and all types inside it: those of its components, alternatives and elements, and under its tag, at any depth.
abbrev mutual
  pub types_in : TypeKind → List TypeKind
  types_in (Sequence components) = Sequence components ∷ types_in_components components
  types_in (Set components) = Set components ∷ types_in_components components
  types_in (Choice alternatives) = Choice alternatives ∷ types_in_alternatives alternatives
  types_in (SequenceOf' at place kind constraints) = SequenceOf' at place kind constraints ∷ types_in kind
  types_in (SetOf' at place kind constraints) = SetOf' at place kind constraints ∷ types_in kind
  types_in (Tagged' tag at place kind constraints) = Tagged' tag at place kind constraints ∷ types_in kind
  types_in kind = kind ∷ []

  pub types_in_components : Components → List TypeKind
  types_in_components (Components' root_shape root is_extensible additions_shape additions) =
      types_in_row root ++ types_in_additions additions

  pub types_in_row : {m : _} → Row_of-Component m → List TypeKind
  types_in_row end_of-Component = []
  types_in_row (more_of-Component name name_place place kind constraints usage rest) = types_in kind ++ types_in_row rest

  pub types_in_additions : {m : _} → Row_of-Addition m → List TypeKind
  types_in_additions end_of-Addition = []
  types_in_additions (more_of-Addition addition rest) = types_in_addition addition ++ types_in_additions rest

  pub types_in_addition : Addition → List TypeKind
  types_in_addition (Component' name name_place place kind constraints usage) = types_in kind
  types_in_addition (Group' shape row) = types_in_row row

  pub types_in_alternatives : Alternatives → List TypeKind
  types_in_alternatives (Alternatives' root_shape root is_extensible additions_shape additions) =
      types_in_chosen root ++ types_in_chosen additions

  pub types_in_chosen : {m : _} → Row_of-Alternative m → List TypeKind
  types_in_chosen end_of-Alternative = []
  types_in_chosen (more_of-Alternative name name_place place kind constraints rest) = types_in kind ++ types_in_chosen rest

-- all types of a schema: those in its definitions, and in the types of its values
abbrev pub types_of : Schema → List TypeKind
types_of schema =
    flat_map (λ defined. types_in defined.definition.kind) schema.types.items
    ++ flat_map (λ defined. types_in defined.definition.kind) schema.values.items
