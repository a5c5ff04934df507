-- The text of a tree, as it is written: the one that is read as that tree.
use Rattle.std.specs.Prelude.{◌≡◌, ◌≤◌, ◌<◌, ◌^◌, ℕ, ◌+◌, max, Bool, true, not, ◌++◌, List, [], ◌∷◌}
use Rattle.std.specs.List.{All}
use Rattle.std.specs.Fmt.{decimal}
use Rattle.asn1_clash.specs.Views.{Adds}
use Rattle.asn1_clash.specs.declared.flat_tree.FlatTree.{FlatTree}
use Rattle.asn1_tags.specs.Trees.{Tree, Trees, leaf, choice, none, more, leaves, leaves_of}
use Rattle.asn1_tags.specs.declared.classes.Class.{Class}
use Rattle.asn1_tags.specs.declared.classes.Class.TheVariants.{Universal, Application, Context, Private}
use Rattle.asn1_report.specs.NamesAndNumbers.{begins_with_digit}

-- the letter of a class
abbrev pub letter_of : Class → ℕ
letter_of Universal = 85
letter_of Application = 65
letter_of Context = 67
letter_of Private = 80

-- a tag as its letter and its number, and the trees of a choice between brackets, separated by one space
abbrev mutual
  pub spelling : Tree → List ℕ
  spelling (leaf tag) = letter_of tag.class ∷ decimal tag.value
  spelling (choice trees) = 40 ∷ (spelling_of trees ++ 41 ∷ [])

  pub spelling_of : Trees → List ℕ
  spelling_of none = []
  spelling_of (more tree trees) = spelling tree ++ spelling_after trees

  pub spelling_after : Trees → List ℕ
  spelling_after none = []
  spelling_after (more tree trees) = 32 ∷ (spelling tree ++ spelling_after trees)

-- how many brackets are open at once in a tree's text: none for a tag, and for a choice one more than the most of
-- its trees
abbrev mutual
  pub brackets : Tree → ℕ
  brackets (leaf tag) = 0
  brackets (choice trees) = brackets_of trees + 1

  pub brackets_of : Trees → ℕ
  brackets_of none = 0
  brackets_of (more tree trees) = max (brackets tree) (brackets_of trees)

-- whether a tree's text ends where this follows it: after a tag no further digit may follow
abbrev pub may_follow : Tree → List ℕ → Bool
may_follow (leaf tag) left = not (begins_with_digit left)
may_follow (choice trees) left = true

-- A text begins with the text of this tree, with at most this many brackets open at once and tags below 2 ^ 32; this is left.
pub record BeginsWithTree (depth : ℕ) (text : List ℕ) (tree : Tree) (left : List ℕ) : Type 0 where
  pub spelled : text ≡ spelling tree ++ left
  pub shallow : brackets tree ≤ depth
  pub small : All (λ tag. tag.value < 2 ^ 32) (leaves tree)
  pub whole : may_follow tree left ≡ true

-- The same of the trees of a choice, and of the bracket that closes it.
pub record BeginsWithTrees (depth : ℕ) (text : List ℕ) (trees : Trees) (left : List ℕ) : Type 0 where
  pub spelled : text ≡ spelling_of trees ++ 41 ∷ left
  pub shallow : brackets_of trees ≤ depth
  pub small : All (λ tag. tag.value < 2 ^ 32) (leaves_of trees)

-- A text begins with a tree, which was added; this is left.
pub record ReadsTree (depth : ℕ) (text left : List ℕ) (old new : FlatTree) : Type 0 where
  pub tree : Tree
  pub begins : BeginsWithTree depth text tree left
  pub added : Adds old new tree

-- The text after the bracket that opens a choice goes on with the choice's trees and the bracket that closes it, and the choice
-- was added; this is left.
pub record ReadsChoice (depth : ℕ) (text left : List ℕ) (old new : FlatTree) : Type 0 where
  pub trees : Trees
  pub begins : BeginsWithTrees depth text trees left
  pub added : Adds old new (choice trees)
