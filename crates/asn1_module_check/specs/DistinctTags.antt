-- Types whose components have distinct tags.
use Rattle.std.specs.Prelude.{ℕ, List}
use Rattle.std.specs.List.{All}
use Rattle.asn1_fields.specs.DistinctTags.{IsSequenceClash, IsSetClash}
use Rattle.asn1_fields.specs.FieldViews.{Component}
use Rattle.asn1_module_check.specs.Tables.{Table, table_view, tables_of}
use Rattle.asn1_module_check.specs.declared.constructed.Constructed.{Constructed}
use Rattle.asn1_module_check.specs.declared.constructed.ConstructedKind.{ConstructedKind}
use Rattle.asn1_module_check.specs.declared.constructed.ConstructedKind.TheVariants.{Sequence, Set, Choice}
use Rattle.asn1_resolved.specs.declared.schema.Schema.{Schema}
use Rattle.asn1_resolved.specs.declared.types.TypeKind.{TypeKind}

-- Two components of a type of this kind, or of version brackets in one, share a tag although they must not: in a SEQUENCE two of a
-- run with the component right after it (X.680, 25.6); in a SET and a CHOICE any two (X.680, 27.3 and 29.3).
abbrev pub IsClash : ConstructedKind → List Component → ℕ → ℕ → Type 0
IsClash Sequence components = IsSequenceClash components
IsClash Set components = IsSetClash components
IsClash Choice components = IsSetClash components

-- No two components share a tag that they must not share.
abbrev pub IsDistinct : Table → Type 0
IsDistinct table = (i j : ℕ) → ¬ IsClash table.kind table.rows i j

-- The same of a table that is listed.
abbrev pub HasDistinctTags : Constructed → Type 0
HasDistinctTags constructed = IsDistinct (table_view constructed)

-- The same of a type: of its components, and of those in each of its version brackets.
abbrev pub IsFreeOfClashes : Schema → TypeKind → Type 0
IsFreeOfClashes schema kind = All IsDistinct (tables_of schema kind)
