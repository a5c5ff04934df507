-- Additions in version brackets.
use Rattle.std.proofs.Common.{◌≡◌, ap}
use Rattle.asn1_resolved.specs.declared.components.Addition.{items_hidden-the_row-Component-0}
use Rattle.asn1_resolved.specs.declared.components.Addition.TheVariants.{Group}
use Rattle.asn1_resolved.specs.declared.schema.Schema.{Schema}
use Rattle.asn1_module_check.specs.declared.constructed.ConstructedKind.{ConstructedKind}
use Rattle.asn1_module_check.specs.Tables.{group_in, row_of_group, rows_of_addition, table_of_group}

pub rows_in_brackets : (schema : Schema) (components : _) → rows_of_addition schema (Group components) ≡ row_of_group schema components.items
rows_in_brackets schema components = ap (row_of_group schema) (items_hidden-the_row-Component-0 components)

pub group_in_brackets : (kind : ConstructedKind) (schema : Schema) (components : _) → group_in kind schema (Group components) ≡ table_of_group kind schema components.items
group_in_brackets kind schema components = ap (table_of_group kind schema) (items_hidden-the_row-Component-0 components)
