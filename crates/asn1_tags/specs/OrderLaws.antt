-- The orders of tags and of trees are total, and answer `Equal` for equals alone.
use Rattle.std.specs.Prelude.{◌≡◌, ℕ, false, List, [], ◌∷◌, ◌++◌, refl}
use Rattle.std.proofs.Common.{zero, suc, sym, ap, ◌∙◌, subst, append_assoc, arith}
use Rattle.std.proofs.lemmas.Bool.Decides.{nat_tests}
use Rattle.std.proofs.lemmas.Grind.{common_steps}
use Rattle.std.proofs.lemmas.List.{append-nil}
use Rattle.std.specs.declared.cmp.Ordering.{Ordering}
use Rattle.std.specs.declared.cmp.Ordering.TheVariants.{Less, Equal, Greater}
use Rattle.std.specs.Ordering.{nat_cmp, on, ordering_then, eq_by_cmp, as_partial_cmp, is_eq}
use Rattle.std.specs.Cmp.{IsTotalOrder, IsPartialOrder, IsEquivalence, tied_itself, partial_order_from_agreeing_total}
use Rattle.std.specs.Cmp.Lexicographic.{slice_cmp}
use Rattle.std.proofs.lemmas.Cmp.{on_total, then_total, nat_cmp_total, nat_list_cmp_total, eq_by_cmp_equiv}
use Rattle.asn1_tags.specs.Tags.{class_number, tag_cmp, smallest}
use Rattle.asn1_tags.specs.Trees.{Tree, Trees, leaf, choice, none, more, leaves, shape}
use Rattle.asn1_tags.specs.Order.{structure_cmp, structures_cmp, tree_cmp}
use Rattle.asn1_tags.specs.declared.classes.Class.{Class}
use Rattle.asn1_tags.specs.declared.classes.Class.TheVariants.{Universal, Application, Context, Private}
use Rattle.asn1_tags.specs.declared.tags.Tag.{Tag}
use Rattle.asn1_tags.specs.declared.trees.TagTree.{TagTree}

class_of : ℕ → Class
class_of zero = Universal
class_of (suc zero) = Application
class_of (suc (suc zero)) = Context
class_of _ = Private

class_back : (k : Class) → class_of (class_number k) ≡ k
unfolding class_of
class_back Universal = refl
class_back Application = refl
class_back Context = refl
class_back Private = refl

-- classes with one number are one class
pub class_number-injective : (j k : Class) → class_number j ≡ class_number k → j ≡ k
class_number-injective j k e = sym (class_back j) ∙ (ap class_of e ∙ class_back k)

-- tags with one class and one number are one tag
pub same_tag : (s t : Tag) → class_number s.class ≡ class_number t.class → s.value ≡ t.value → s ≡ t
same_tag s t e f =
    let same = class_number-injective s.class t.class e in
    λ i. record { class = same i; value = f i }

-- the order of tags is total
pub tag_total : IsTotalOrder tag_cmp
tag_total = then_total (on_total (λ t. class_number t.class) nat_cmp_total) (on_total (λ t. t.value) nat_cmp_total)

-- a tree as numbers whose order, number by number, is that of the structure
abbrev mutual
  code : Tree → List ℕ
  code (leaf t) = 0 ∷ (class_number t.class ∷ (t.value ∷ []))
  code (choice ts) = 1 ∷ codes_of ts

  codes_of : Trees → List ℕ
  codes_of none = 0 ∷ []
  codes_of (more t ts) = 1 ∷ (code t ++ codes_of ts)

then_assoc : (o p q : Ordering) → ordering_then o (ordering_then p q) ≡ ordering_then (ordering_then o p) q
then_assoc Less p q = refl
then_assoc Equal p q = refl
then_assoc Greater p q = refl

then_equal : (o : Ordering) → ordering_then o Equal ≡ o
then_equal Less = refl
then_equal Equal = refl
then_equal Greater = refl

mutual
  coded : (s t : Tree) (xs ys : List ℕ) →
      slice_cmp nat_cmp (code s ++ xs) (code t ++ ys) ≡ ordering_then (structure_cmp s t) (slice_cmp nat_cmp xs ys)
  coded (leaf s) (leaf t) xs ys =
      then_assoc (nat_cmp (class_number s.class) (class_number t.class)) (nat_cmp s.value t.value) (slice_cmp nat_cmp xs ys)
  coded (leaf s) (choice us) xs ys = refl
  coded (choice ts) (leaf u) xs ys = refl
  coded (choice ts) (choice us) xs ys = all_coded ts us xs ys

  all_coded : (ts us : Trees) (xs ys : List ℕ) →
      slice_cmp nat_cmp (codes_of ts ++ xs) (codes_of us ++ ys) ≡ ordering_then (structures_cmp ts us) (slice_cmp nat_cmp xs ys)
  all_coded none none xs ys = refl
  all_coded none (more u us) xs ys = refl
  all_coded (more t ts) none xs ys = refl
  all_coded (more t ts) (more u us) xs ys =
      ap (λ zs. slice_cmp nat_cmp zs ((code u ++ codes_of us) ++ ys)) (append_assoc (code t) (codes_of ts) xs)
      ∙ (ap (λ zs. slice_cmp nat_cmp (code t ++ (codes_of ts ++ xs)) zs) (append_assoc (code u) (codes_of us) ys)
      ∙ (coded t u (codes_of ts ++ xs) (codes_of us ++ ys)
      ∙ (ap (ordering_then (structure_cmp t u)) (all_coded ts us xs ys)
      ∙ then_assoc (structure_cmp t u) (structures_cmp ts us) (slice_cmp nat_cmp xs ys))))

code_cmp : (s t : Tree) → slice_cmp nat_cmp (code s) (code t) ≡ structure_cmp s t
code_cmp s t =
    sym
    (ap (λ zs. slice_cmp nat_cmp zs (code t ++ [])) (append-nil (code s))
    ∙ ap (λ zs. slice_cmp nat_cmp (code s) zs) (append-nil (code t)))
    ∙ (coded s t [] [] ∙ then_equal (structure_cmp s t))

-- the order by structure is total
pub structure_total : IsTotalOrder structure_cmp
structure_total = subst IsTotalOrder (λ i s t. code_cmp s t i) (on_total code nat_list_cmp_total)

pub structure_cmp-refl : (t : Tree) → structure_cmp t t ≡ Equal
structure_cmp-refl t = tied_itself structure_total t

-- the order of trees is total
pub tree_cmp-total : IsTotalOrder tree_cmp
tree_cmp-total = then_total (on_total (λ t. smallest (leaves t)) tag_total) structure_total

pub tree_cmp-refl : (t : Tree) → tree_cmp t t ≡ Equal
tree_cmp-refl t = tied_itself tree_cmp-total t

pub tree_total : IsTotalOrder (on shape tree_cmp)
tree_total = on_total shape tree_cmp-total

-- trees of the same structure are equivalent
pub structure_equiv : IsEquivalence (eq_by_cmp (on shape structure_cmp))
structure_equiv = eq_by_cmp_equiv (on_total shape structure_total)

first_equal : (o p : Ordering) → ordering_then o p ≡ Equal → o ≡ Equal
first_equal Less p e = e
first_equal Equal p e = refl
first_equal Greater p e = e

pub second_equal : (o p : Ordering) → ordering_then o p ≡ Equal → p ≡ Equal
second_equal Less p e = cc
second_equal Equal p e = e
second_equal Greater p e = cc

nat_cmp-Equal : (m n : ℕ) → nat_cmp m n ≡ Equal → m ≡ n
nat_cmp-Equal m n e = grind (arith, nat_tests, common_steps)

mutual
  -- trees of one structure are one tree
  pub structure_cmp-Equal : (s t : Tree) → structure_cmp s t ≡ Equal → s ≡ t
  structure_cmp-Equal (leaf s) (leaf t) e =
      let o = nat_cmp (class_number s.class) (class_number t.class) in
      let p = nat_cmp s.value t.value in
      ap leaf
      (same_tag s t
      (nat_cmp-Equal (class_number s.class) (class_number t.class) (first_equal o p e))
      (nat_cmp-Equal s.value t.value (second_equal o p e)))
  structure_cmp-Equal (leaf s) (choice us) e = cc
  structure_cmp-Equal (choice ts) (leaf u) e = cc
  structure_cmp-Equal (choice ts) (choice us) e = ap choice (structures_cmp-Equal ts us e)

  structures_cmp-Equal : (ts us : Trees) → structures_cmp ts us ≡ Equal → ts ≡ us
  structures_cmp-Equal none none e = refl
  structures_cmp-Equal none (more u us) e = cc
  structures_cmp-Equal (more t ts) none e = cc
  structures_cmp-Equal (more t ts) (more u us) e =
      let first = structure_cmp-Equal t u (first_equal (structure_cmp t u) (structures_cmp ts us) e) in
      let rest = structures_cmp-Equal ts us (second_equal (structure_cmp t u) (structures_cmp ts us) e) in
      λ i. more (first i) (rest i)

never_equal : (o p : Ordering) → is_eq p ≡ false → false ≡ is_eq (ordering_then o p)
never_equal Less p e = refl
never_equal Equal p e = sym e
never_equal Greater p e = refl

-- two trees tie if and only if they have one structure
pub tree_ties : (x y : TagTree) → eq_by_cmp (on shape structure_cmp) x y ≡ eq_by_cmp (on shape tree_cmp) x y
tree_ties x y = by_structure (structure_cmp (shape x) (shape y)) refl
  where
    first : Ordering
    first = tag_cmp (smallest (leaves (shape x))) (smallest (leaves (shape y)))

    untied : (o : Ordering) → is_eq o ≡ false → structure_cmp (shape x) (shape y) ≡ o →
        eq_by_cmp (on shape structure_cmp) x y ≡ eq_by_cmp (on shape tree_cmp) x y
    untied o off e = ap is_eq e ∙ (off ∙ (never_equal first o off ∙ ap (λ p. is_eq (ordering_then first p)) (sym e)))

    by_structure : (o : Ordering) → structure_cmp (shape x) (shape y) ≡ o →
        eq_by_cmp (on shape structure_cmp) x y ≡ eq_by_cmp (on shape tree_cmp) x y
    by_structure Less e = untied Less refl e
    by_structure Greater e = untied Greater refl e
    by_structure Equal e =
        let same = structure_cmp-Equal (shape x) (shape y) e in
        let level : first ≡ Equal =
        subst (λ t. tag_cmp (smallest (leaves (shape x))) (smallest (leaves t)) ≡ Equal) same (tied_itself tag_total (smallest (leaves (shape x)))) in
        ap (λ o. is_eq (ordering_then o (structure_cmp (shape x) (shape y)))) (sym level)

-- and the order by the cases of what may be answered agrees with it
pub tree_partial : IsPartialOrder (eq_by_cmp (on shape structure_cmp)) (as_partial_cmp (on shape tree_cmp))
tree_partial = partial_order_from_agreeing_total (on shape tree_cmp) tree_total (λ _ _. refl) tree_ties
