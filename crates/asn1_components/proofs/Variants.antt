-- How many alternatives there are, by their trees.
use Rattle.std.specs.Prelude.{◌≡◌, ℕ, zero, suc, List, [], ◌∷◌, length, refl}
use Rattle.std.proofs.Common.{ap, sym, ◌∙◌}
use Rattle.asn1_tags.specs.declared.trees.TagTree.{TagTree}
use Rattle.asn1_tags.specs.Trees.{Trees, none, more, shapes}
use Rattle.asn1_components.specs.Alternatives.{Alternative, trees_of}

abbrev count : Trees → ℕ
count none = zero
count (more t ts) = suc (count ts)

count-shapes : (ts : List TagTree) → count (shapes ts) ≡ length ts
count-shapes [] = refl
count-shapes (t ∷ ts) = ap suc (count-shapes ts)

count-trees_of : (alts : List Alternative) → count (trees_of alts) ≡ length alts
count-trees_of [] = refl
count-trees_of (a ∷ alts) = ap suc (count-trees_of alts)

-- as many trees as alternatives
pub as_many : (ts : List TagTree) (alts : List Alternative) → shapes ts ≡ trees_of alts → length ts ≡ length alts
as_many ts alts same = sym (count-shapes ts) ∙ (ap count same ∙ count-trees_of alts)
