-- The entries of the table of a type, apart from where its lists lie in memory.
use Rattle.std.specs.Prelude.{Bool, true, false}
use Rattle.asn1_tags.specs.declared.tags.Tag.{Tag}
use Rattle.asn1_tags.specs.Trees.{Tree, leaf, choice, none, shapes}
use Rattle.asn1_model.specs.declared.type_table.TreeForm.{TreeForm}
use Rattle.asn1_model.specs.declared.type_table.TreeForm.TheVariants.{Leaf, Choice, Open}
use Rattle.asn1_model.specs.Kinds.{choice_tree}

-- the tags with which a value can begin, where its type is written under a tag
abbrev pub tree_under : TreeForm → Tag → Tree
tree_under Leaf t = leaf t
tree_under (Choice alternatives) t = choice_tree (choice (shapes alternatives.now)) t
tree_under Open t = choice none

-- the form is that of a CHOICE
abbrev pub is_of_choice : TreeForm → Bool
is_of_choice Leaf = false
is_of_choice (Choice alternatives) = true
is_of_choice Open = false
