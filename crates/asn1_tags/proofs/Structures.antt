-- How the structures of several trees compare, tree by tree.
use Rattle.std.proofs.Common.{◌≡◌, ◌≢◌, ℕ, zero, suc, ◌+◌, ◌<◌, min, true, false, List, [], ◌∷◌, length, get_or, drop, refl, sym, ap, ◌∙◌, subst, arith}
use Rattle.std.proofs.lemmas.List.{drop_more}
use Rattle.std.proofs.lemmas.Bool.{false≢true}
use Rattle.std.proofs.lemmas.Bool.Decides.{nat_tests}
use Rattle.std.proofs.lemmas.Grind.{common_steps}
use Rattle.std.specs.declared.cmp.Ordering.{Ordering}
use Rattle.std.specs.declared.cmp.Ordering.TheVariants.{Less, Equal, Greater}
use Rattle.std.specs.Ordering.{nat_cmp, ordering_then, is_eq}
use Rattle.asn1_tags.specs.Order.{structure_cmp, structures_cmp, tree_cmp}
use Rattle.asn1_tags.specs.Tags.{smallest, tag_cmp}
use Rattle.asn1_tags.specs.OrderLaws.{second_equal, structure_cmp-Equal, structure_cmp-refl, tree_cmp-refl}
use Rattle.asn1_tags.specs.Trees.{Tree, leaves, shape, shapes}
use Rattle.asn1_tags.specs.declared.trees.TagTree.{TagTree}

-- the first trees, and those after them
pub structures_more : (ts us : List TagTree) (i : ℕ) (d e : TagTree) → i < length ts → i < length us →
    structures_cmp (shapes (drop i ts)) (shapes (drop i us))
    ≡ ordering_then
    (structure_cmp (shape (get_or ts i d)) (shape (get_or us i e)))
    (structures_cmp (shapes (drop (i + 1) ts)) (shapes (drop (i + 1) us)))
structures_more ts us i d e lt lu =
    ap (λ xs. structures_cmp (shapes xs) (shapes (drop i us))) (drop_more ts i d lt)
    ∙ ap (λ xs. structures_cmp (shapes (get_or ts i d ∷ drop (i + 1) ts)) (shapes xs)) (drop_more us i e lu)

nat_cmp-suc : (m n : ℕ) → nat_cmp (suc m) (suc n) ≡ nat_cmp m n
nat_cmp-suc m n = grind (arith, nat_tests, common_steps)

-- if one list ends, the lengths decide
pub structures_end : (ts us : List TagTree) (i : ℕ) → i ≡ min (length ts) (length us) →
    structures_cmp (shapes (drop i ts)) (shapes (drop i us)) ≡ nat_cmp (length ts) (length us)
structures_end [] [] zero e = refl
structures_end [] (u ∷ us) zero e = grind (arith, nat_tests, common_steps)
structures_end (t ∷ ts) [] zero e = grind (arith, nat_tests, common_steps)
structures_end (t ∷ ts) (u ∷ us) zero e = absurd (omega arith)
structures_end [] us (suc i) e = absurd (omega arith)
structures_end (t ∷ ts) [] (suc i) e = absurd (omega arith)
structures_end (t ∷ ts) (u ∷ us) (suc i) e =
    structures_end ts us i (omega arith) ∙ sym (nat_cmp-suc (length ts) (length us))

-- a first answer that is not `Equal` decides
pub first_decides : (o p : Ordering) → o ≢ Equal → o ≡ ordering_then o p
first_decides Less p h = refl
first_decides Equal p h = absurd (h refl)
first_decides Greater p h = refl

-- a tree that differs decides
pub structures_differ : (ts us : List TagTree) (i : ℕ) (d e : TagTree) → i < length ts → i < length us →
    structures_cmp (shapes ts) (shapes us) ≡ structures_cmp (shapes (drop i ts)) (shapes (drop i us)) →
    is_eq (structure_cmp (shape (get_or ts i d)) (shape (get_or us i e))) ≡ false →
    structure_cmp (shape (get_or ts i d)) (shape (get_or us i e)) ≡ structures_cmp (shapes ts) (shapes us)
structures_differ ts us i d e lt lu same off =
    let order = structure_cmp (shape (get_or ts i d)) (shape (get_or us i e)) in
    first_decides order (structures_cmp (shapes (drop (i + 1) ts)) (shapes (drop (i + 1) us))) (λ tied. false≢true (sym off ∙ ap is_eq tied))
    ∙ sym (same ∙ structures_more ts us i d e lt lu)

-- a tree that ties leaves it to those after
pub structures_tie : (ts us : List TagTree) (i : ℕ) (d e : TagTree) → i < length ts → i < length us →
    structures_cmp (shapes ts) (shapes us) ≡ structures_cmp (shapes (drop i ts)) (shapes (drop i us)) →
    is_eq (structure_cmp (shape (get_or ts i d)) (shape (get_or us i e))) ≡ true →
    structures_cmp (shapes ts) (shapes us) ≡ structures_cmp (shapes (drop (i + 1) ts)) (shapes (drop (i + 1) us))
structures_tie ts us i d e lt lu same tied =
    let order = structure_cmp (shape (get_or ts i d)) (shape (get_or us i e)) in
    same ∙ (structures_more ts us i d e lt lu
    ∙ rest_decides order (structures_cmp (shapes (drop (i + 1) ts)) (shapes (drop (i + 1) us))) tied)
  where
    rest_decides : (o p : Ordering) → is_eq o ≡ true → ordering_then o p ≡ p
    rest_decides Less p e = cc
    rest_decides Equal p e = refl
    rest_decides Greater p e = cc

-- trees tie if and only if they are the same
pub same-from_tie : (s t : Tree) → is_eq (structure_cmp s t) ≡ true → s ≡ t
same-from_tie s t h = by_order (structure_cmp s t) refl h
  where
    by_order : (o : Ordering) → structure_cmp s t ≡ o → is_eq o ≡ true → s ≡ t
    by_order Less e h = cc
    by_order Equal e h = structure_cmp-Equal s t e
    by_order Greater e h = cc

pub tie-from_same : (s t : Tree) → s ≡ t → is_eq (structure_cmp s t) ≡ true
tie-from_same s t e = subst (λ u. is_eq (structure_cmp s u) ≡ true) e (ap is_eq (structure_cmp-refl s))

pub tree_cmp-Equal : (s t : Tree) → tree_cmp s t ≡ Equal → s ≡ t
tree_cmp-Equal s t e = structure_cmp-Equal s t (second_equal (tag_cmp (smallest (leaves s)) (smallest (leaves t))) (structure_cmp s t) e)

pub Equal-tree_cmp : (s t : Tree) → s ≡ t → tree_cmp s t ≡ Equal
Equal-tree_cmp s t e = subst (λ u. tree_cmp s u ≡ Equal) e (tree_cmp-refl s)

pub Equal-structure_cmp : (s t : Tree) → s ≡ t → structure_cmp s t ≡ Equal
Equal-structure_cmp s t e = subst (λ u. structure_cmp s u ≡ Equal) e (structure_cmp-refl s)

pub ruleset equal_trees = (structure_cmp-Equal, Equal-structure_cmp)

pub ruleset ties = (same-from_tie, tie-from_same)

pub ruleset steps = (structures_differ, structures_tie, structures_end)
