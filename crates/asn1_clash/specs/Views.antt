-- The values that the types of this crate represent.
use Rattle.std.specs.Prelude.{◌≡◌, ◌++◌, ◌||◌, List, map}
use Rattle.asn1_tags.specs.Trees.{Tree, leaves, is_open}
use Rattle.asn1_fields.specs.FieldViews.{Component}
use Rattle.asn1_clash.specs.Flat.{flat_tree}
use Rattle.asn1_clash.specs.declared.flat_component.FlatComponent.{FlatComponent}
use Rattle.asn1_clash.specs.declared.flat_tree.FlatTree.{FlatTree}

-- a tree
abbrev pub tree_view : FlatTree → Tree
tree_view tree = flat_tree tree.tags.items tree.has_empty_choice

-- a component
abbrev pub component_view : FlatComponent → Component
component_view component = record { presence = component.presence; tree = tree_view component.tree }

-- several components
abbrev pub components_view : List FlatComponent → List Component
components_view components = map component_view components

-- A tree was added after what was there: its leaves, and whether a choice of nothing is in it.
pub record Adds (old new : FlatTree) (tree : Tree) : Type 0 where
  pub tags : new.tags.items ≡ old.tags.items ++ leaves tree
  pub empty_choice : new.has_empty_choice ≡ (old.has_empty_choice || is_open tree)
