-- The fields of SEQUENCE and SET types as values, and their components as the rules on tags see them.
use Rattle.std.specs.Prelude.{ℕ, Bool, true, false, List, map}
use Rattle.asn1_tags.specs.Trees.{Tree, shape}
use Rattle.asn1_tags.specs.declared.tags.Tag.{Tag}
use Rattle.asn1_model.specs.Meaning.{Meaning}
use Rattle.asn1_model.specs.RecordTables.{Row}
use Rattle.asn1_fields.specs.declared.field.Field.{Field}
use Rattle.asn1_fields.specs.declared.presence.FieldPresence.{FieldPresence}
use Rattle.asn1_fields.specs.declared.presence.FieldPresence.TheVariants.{Required, Optional, Default}

-- whether a component of that presence may be absent
abbrev pub may_be_absent : FieldPresence → Bool
may_be_absent Required = false
may_be_absent Optional = true
may_be_absent Default = true

-- A component, as the rules on tags look at it: whether it may be absent, and the tree of the tags with which it can begin.
pub record Component : Type 0 where
  pub presence : FieldPresence
  pub tree : Tree

-- A field as a value: what it says, wherever its tree and its name lie in memory.
pub record FieldView : Type 0 where
  pub index : ℕ
  pub tag : Tag
  pub tree : Tree
  pub presence : FieldPresence
  pub name : List ℕ

-- the view of these parts
abbrev pub view : ℕ → Tag → Tree → FieldPresence → List ℕ → FieldView
view index tag tree presence name = record { index = index; tag = tag; tree = tree; presence = presence; name = name }

-- the view of a field
abbrev pub view_of : Field → FieldView
view_of f = record { index = f.index; tag = f.tag; tree = shape f.tag_tree; presence = f.presence; name = f.name.now }

-- the view of a component under a tag
abbrev pub tagged_view : {V : Type 0} → ℕ → Meaning V → Tag → FieldPresence → List ℕ → FieldView
tagged_view index type tag presence name = view index tag (type.tree tag) presence name

-- the view of a component under its type's own tag
abbrev pub typed_view : {V : Type 0} → ℕ → Meaning V → FieldPresence → List ℕ → FieldView
typed_view index type presence name = tagged_view index type type.tag presence name

-- the component of a field, as the rules on tags see it
abbrev pub component_of : FieldView → Component
component_of e = record { presence = e.presence; tree = e.tree }

-- the row of a field in the table of a record
abbrev pub row_of : FieldView → Row
row_of e = record { name = e.name; tree = e.tree; may_be_absent = may_be_absent e.presence }

-- the views of several fields
abbrev pub views : List Field → List FieldView
views fs = map view_of fs

-- their components
abbrev pub components : List Field → List Component
components fs = map component_of (views fs)
