-- The index of the tree that has a tag, among those of the alternatives of a CHOICE.
use Rattle.std.specs.Prelude.{ℕ, zero, suc, Contains, MatchOption, Option}
use Rattle.asn1_tags.specs.Trees.{Trees, none, more, leaves}
use Rattle.asn1_tags.specs.declared.tags.Tag.{Tag}

-- the tree at this index has the tag as a leaf
abbrev pub BeginsAt : Trees → ℕ → Tag → Type 0
BeginsAt none index t = ⊥
BeginsAt (more tree trees) zero t = Contains (leaves tree) t
BeginsAt (more tree trees) (suc index) t = BeginsAt trees index t

-- The answer is the index of a tree that has the tag, and none where no tree has it.
abbrev pub IsIndexOf : Tag → Trees → Option ℕ → Type 0
IsIndexOf t trees answer =
    MatchOption answer ((k : ℕ) → BeginsAt trees k t → ⊥) (λ k. BeginsAt trees k t)
