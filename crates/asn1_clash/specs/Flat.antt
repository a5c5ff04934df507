-- Trees of tags, flattened: what the rules on distinct tags look at in a tree is its leaves, and whether a choice of nothing is in it.
use Rattle.std.specs.Prelude.{Bool, if◌then◌else◌, List, [], ◌∷◌}
use Rattle.asn1_tags.specs.Trees.{Tree, Trees, leaf, choice, none, more, leaves, is_open}
use Rattle.asn1_tags.specs.declared.tags.Tag.{Tag}
use Rattle.asn1_fields.specs.FieldViews.{Component}

-- leaves side by side, and after them a choice of nothing if there is one
abbrev pub side_by_side : List Tag → Bool → Trees
side_by_side [] empty_choice = if empty_choice then more (choice none) none else none
side_by_side (tag ∷ tags) empty_choice = more (leaf tag) (side_by_side tags empty_choice)

-- the choice between these leaves; without a leaf it is a choice of nothing
abbrev pub flat_tree : List Tag → Bool → Tree
flat_tree [] empty_choice = choice none
flat_tree (tag ∷ tags) empty_choice = choice (side_by_side (tag ∷ tags) empty_choice)

-- a tree with its leaves side by side
abbrev pub flat : Tree → Tree
flat tree = flat_tree (leaves tree) (is_open tree)

-- a component whose tree is flat
abbrev pub flat_component : Component → Component
flat_component component = record component { tree = flat component.tree }
