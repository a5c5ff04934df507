-- Trees of tags, apart from where they lie in memory.
use Rattle.std.specs.Prelude.{Bool, true, false, ◌||◌, List, [], ◌∷◌, ◌++◌}
use Rattle.asn1_tags.specs.declared.tags.Tag.{Tag}
use Rattle.asn1_tags.specs.declared.trees.TagTree.{TagTree, Leaf, Choice', Row_of-TagTree, end_of-TagTree, more_of-TagTree}

-- A tree is the tag of a type that is no untagged CHOICE, or the trees of a CHOICE's alternatives.
mutual
  pub data Tree : Type 0 where
    leaf : Tag → Tree
    choice : Trees → Tree

  pub data Trees : Type 0 where
    none : Trees
    more : Tree → Trees → Trees

-- the shape of a tree: the tree, apart from where it lies in memory
unfoldable mutual
  pub shape : TagTree → Tree
  shape (Leaf t) = leaf t
  shape (Choice' p n row) = choice (row_shapes row)

  pub row_shapes : {n : _} → Row_of-TagTree n → Trees
  row_shapes end_of-TagTree = none
  row_shapes (more_of-TagTree t rest) = more (shape t) (row_shapes rest)

-- the shapes of several trees
abbrev pub shapes : List TagTree → Trees
shapes [] = none
shapes (t ∷ ts) = more (shape t) (shapes ts)

-- The leaves of a tree are its tags from left to right; those of several trees follow one another.
abbrev mutual
  pub leaves : Tree → List Tag
  leaves (leaf t) = t ∷ []
  leaves (choice ts) = leaves_of ts

  pub leaves_of : Trees → List Tag
  leaves_of none = []
  leaves_of (more t ts) = leaves t ++ leaves_of ts

-- whether a choice of nothing is anywhere in the tree, or in one of several trees
abbrev mutual
  pub is_open : Tree → Bool
  is_open (leaf t) = false
  is_open (choice ts) = is_nothing ts || is_any_open ts

  pub is_any_open : Trees → Bool
  is_any_open none = false
  is_any_open (more t ts) = is_open t || is_any_open ts

  pub is_nothing : Trees → Bool
  is_nothing none = true
  is_nothing (more t ts) = false
