-- The components of types, as the rules on distinct tags look at them.
use Rattle.std.specs.Prelude.{List, [], ◌∷◌, ◌++◌, map}
use Rattle.std.specs.List.{flat_map}
use Rattle.asn1_clash.specs.Views.{components_view}
use Rattle.asn1_fields.specs.FieldViews.{Component as Row}
use Rattle.asn1_fields.specs.declared.presence.FieldPresence.{FieldPresence}
use Rattle.asn1_fields.specs.declared.presence.FieldPresence.TheVariants.{Required, Optional, Default}
use Rattle.asn1_module_check.specs.FirstTags.{FirstTags, all_alternatives, first_tags, of_each, tree_of}
use Rattle.asn1_module_check.specs.declared.constructed.Constructed.{Constructed}
use Rattle.asn1_module_check.specs.declared.constructed.ConstructedKind.{ConstructedKind}
use Rattle.asn1_module_check.specs.declared.constructed.ConstructedKind.TheVariants.{Sequence as of_sequence, Set as of_set, Choice as of_choice}
use Rattle.asn1_module_check.specs.declared.tables.Rows.{Rows}
use Rattle.asn1_resolved.specs.declared.components.Addition.{Addition, Component', Group', items-the_row-Component}
use Rattle.asn1_resolved.specs.declared.components.Alternative.{Alternative}
use Rattle.asn1_resolved.specs.declared.components.Component.{Component}
use Rattle.asn1_resolved.specs.declared.components.Components.{Components, out-Components}
use Rattle.asn1_resolved.specs.declared.components.Usage.{Usage}
use Rattle.asn1_resolved.specs.declared.components.Usage.TheVariants.{Required as always, Optional as optional, Default as or_value}
use Rattle.asn1_resolved.specs.declared.schema.Schema.{Schema}
use Rattle.asn1_resolved.specs.TypesInside.{types_in, types_of}
use Rattle.asn1_resolved.specs.declared.types.TypeKind.{TypeKind, Sequence, Set, Choice}

-- The components of a type, or those in version brackets.
pub record Table : Type 0 where
  pub kind : ConstructedKind
  pub rows : List Row

-- the table of these
abbrev pub table : ConstructedKind → List Row → Table
table kind rows = record { kind = kind; rows = rows }

-- whether a component may be absent
abbrev pub presence_of : Usage → FieldPresence
presence_of always = Required
presence_of optional = Optional
presence_of (or_value value) = Default

-- a component with these tags
abbrev pub row : FieldPresence → FirstTags → Row
row presence first = record { presence = presence; tree = tree_of first }

-- the components of a root, or those in version brackets
abbrev pub rows_of : Schema → List Component → List Row
rows_of schema components =
    map (λ component. row (presence_of component.usage) (first_tags schema component.definition.kind)) components

-- Those in version brackets are one addition, which begins as each of them, since those before it may be absent.
abbrev pub row_of_group : Schema → List Component → List Row
row_of_group schema [] = []
row_of_group schema (first ∷ others) =
    row Optional (of_each (λ component. first_tags schema component.definition.kind) (first ∷ others)) ∷ []

-- An addition may be absent.
abbrev pub rows_of_addition : Schema → Addition → List Row
rows_of_addition schema (Component' name name_place place kind constraints usage) = row Optional (first_tags schema kind) ∷ []
rows_of_addition schema (Group' shape components) = row_of_group schema (items-the_row-Component _ components)

-- the components of a SEQUENCE or a SET
abbrev pub all_rows : Schema → Components → List Row
all_rows schema components =
    rows_of schema (out-Components components).root.items
    ++ flat_map (rows_of_addition schema) (out-Components components).additions.items

-- the alternatives of a CHOICE, of which one is there
abbrev pub rows_of_alternatives : Schema → List Alternative → List Row
rows_of_alternatives schema alternatives =
    map (λ alternative. row Required (first_tags schema alternative.definition.kind)) alternatives

-- those in version brackets, as a SEQUENCE or a SET, which has them
abbrev pub table_of_group : ConstructedKind → Schema → List Component → List Table
table_of_group kind schema [] = []
table_of_group kind schema (first ∷ others) = table kind (rows_of schema (first ∷ others)) ∷ []

-- the group that an addition is
abbrev pub group_in : ConstructedKind → Schema → Addition → List Table
group_in of_kind schema (Component' name name_place place kind constraints usage) = []
group_in of_kind schema (Group' shape components) = table_of_group of_kind schema (items-the_row-Component _ components)

-- all groups
abbrev pub groups_in : ConstructedKind → Schema → Components → List Table
groups_in of_kind schema components = flat_map (group_in of_kind schema) (out-Components components).additions.items

-- the components of a type, and those in its version brackets
abbrev pub tables_of : Schema → TypeKind → List Table
tables_of schema (Sequence components) = table of_sequence (all_rows schema components) ∷ groups_in of_sequence schema components
tables_of schema (Set components) = table of_set (all_rows schema components) ∷ groups_in of_set schema components
tables_of schema (Choice alternatives) = table of_choice (rows_of_alternatives schema (all_alternatives alternatives)) ∷ []
tables_of schema kind = []

-- those of the type and of all types inside it
abbrev pub tables_in : Schema → TypeKind → List Table
tables_in schema kind = flat_map (tables_of schema) (types_in kind)

-- those of all types of a schema
abbrev pub schema_tables : Schema → List Table
schema_tables schema = flat_map (tables_of schema) (types_of schema)

-- the table that is listed
abbrev pub table_view : Constructed → Table
table_view constructed = table constructed.kind (components_view constructed.components.items)

-- the rows that are listed
abbrev pub rows_view : Rows → List Row
rows_view rows = components_view rows.components.items
