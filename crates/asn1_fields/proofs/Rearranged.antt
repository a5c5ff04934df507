-- At most one rearrangement of a table whose smallest tags differ is canonical.
use Rattle.std.proofs.Common.{◌≡◌, ◌≢◌, ◌⊎◌, inl, inr, ℕ, suc, ◌+◌, ◌<◌, ◌≤◌, Bool, true, false, cond, List, [], ◌∷◌, All, AllPairs, Contains, add-one, get_or, map, refl, sym, ap, ◌∙◌, subst, arith}
use Rattle.std.specs.List.{slice_get, sum_by}
use Rattle.std.proofs.lemmas.Bool.{cases_lt}
use Rattle.std.proofs.lemmas.List.{get_or_default}
use Rattle.std.proofs.lemmas.List.Sums.{sum_by-cons}
use Rattle.std.proofs.lemmas.List.Elements.{All-contains_itself}
use Rattle.std.proofs.lemmas.List.Sorted.{All-permutation, sum_by-IsPermutation}
use Rattle.asn1_tags.specs.Tags.{IsAtMost, tag_eq}
use Rattle.asn1_tags.specs.declared.tags.Tag.{Tag}
use Rattle.asn1_tags.proofs.TagListTests.{tag_eq-refl, tag_eq-true}
use Rattle.asn1_tags.proofs.Smallest.{IsAtMost-antisym, IsAtMost-refl, IsAtMost-trans}
use Rattle.asn1_fields.specs.CanonicalOrder.{IsCanonical, AtMostOneIsCanonical, smallest_tag}
use Rattle.asn1_fields.specs.FieldViews.{FieldView, component_of}

abbrev key : FieldView → Tag
key e = smallest_tag (component_of e)

-- the tag is at most the smallest tag of each component
abbrev IsAtMostAll : Tag → List FieldView → Type 0
IsAtMostAll t [] = Unit {0}
IsAtMostAll t (e ∷ es) = IsAtMost t (key e) × IsAtMostAll t es

-- each component's smallest tag is at most those of all after it
abbrev IsAscending : List FieldView → Type 0
IsAscending [] = Unit {0}
IsAscending (e ∷ es) = IsAtMostAll (key e) es × IsAscending es

at_most_all : (s t : Tag) (es : List FieldView) → IsAtMost s t → IsAtMostAll t es → IsAtMostAll s es
at_most_all s t [] le all = tt
at_most_all s t (e ∷ es) le all = (IsAtMost-trans s t (key e) le all.0, at_most_all s t es le all.1)

canonical_tail : (e : FieldView) (es : List FieldView) → IsCanonical (map component_of (e ∷ es)) → IsCanonical (map component_of es)
canonical_tail e es h k c d first second =
    h (suc k) c d first (ap (slice_get (map component_of (e ∷ es))) (add-one (suc k)) ∙ (sym (ap (slice_get (map component_of es)) (add-one k)) ∙ second))

ascending : (es : List FieldView) → IsCanonical (map component_of es) → IsAscending es
ascending [] h = tt
ascending (e ∷ []) h = (tt, tt)
ascending (e ∷ (f ∷ es)) h = with_rest (ascending (f ∷ es) (canonical_tail e (f ∷ es) h))
  where
    with_rest : IsAscending (f ∷ es) → IsAscending (e ∷ (f ∷ es))
    with_rest rest =
        let le : IsAtMost (key e) (key f) = h 0 (component_of e) (component_of f) refl refl in
        ((le, at_most_all (key e) (key f) es le rest.0), rest)

-- how many components have that smallest tag
abbrev count_of : Tag → List FieldView → ℕ
count_of t es = sum_by (λ e. cond (tag_eq (key e) t) 1 0) es

-- a smallest tag that is there is at least what is at most all
at_most_found : (s t : Tag) (es : List FieldView) → IsAtMostAll s es → 0 < count_of t es → IsAtMost s t
at_most_found s t [] all there = absurd (omega arith)
at_most_found s t (e ∷ es) all there =
    by_test (at_most_found s t es all.1) (tag_eq (key e) t) refl (subst (λ n. 0 < n) (sum_by-cons (λ x. cond (tag_eq (key x) t) 1 0) e es) there)
  where
    by_test : (0 < count_of t es → IsAtMost s t) → (b : Bool) → tag_eq (key e) t ≡ b → 0 < cond b 1 0 + count_of t es → IsAtMost s t
    by_test rest true same there = subst (IsAtMost s) (tag_eq-true (key e) t same) all.0
    by_test rest false other there = rest (omega arith)

counts_itself : (e : FieldView) (es : List FieldView) → 0 < count_of (key e) (e ∷ es)
counts_itself e es =
    let f : FieldView → ℕ = λ x. cond (tag_eq (key x) (key e)) 1 0 in
    let is : f e ≡ 1 = let step : Bool → ℕ = λ b. cond b 1 0 in ap step (tag_eq-refl (key e)) in
    subst (λ n. 0 < n) (sym (sum_by-cons f e es)) (omega (arith, is))

-- the first component's smallest tag is at most each of the list
head_at_most : (e : FieldView) (es : List FieldView) (t : Tag) → IsAscending (e ∷ es) → 0 < count_of t (e ∷ es) → IsAtMost (key e) t
head_at_most e es t up there = at_most_found (key e) t (e ∷ es) (IsAtMost-refl (key e), up.0) there

module _ (all : List FieldView) (apart : AllPairs (λ d e. key d ≢ key e) all) where
  -- components of the table with one smallest tag are one component
  same_view : (d e : FieldView) → Contains all d → Contains all e → key d ≡ key e → d ≡ e
  same_view d e (i, i_in, i_is) (j, j_in, j_is) same = by_order (cases_lt i j) (cases_lt j i)
    where
      level : key (get_or all i d) ≡ key (get_or all j e)
      level = ap key i_is ∙ (same ∙ sym (ap key j_is))

      by_order : (i < j) ⊎ (j ≤ i) → (j < i) ⊎ (i ≤ j) → d ≡ e
      by_order (inl lt) _ = absurd (apart i j d lt j_in (level ∙ ap key (get_or_default all j e d j_in)))
      by_order (inr le) (inl lt) = absurd (apart j i d lt i_in (ap key (get_or_default all j d e j_in) ∙ sym level))
      by_order (inr le) (inr ge) =
          let at : i ≡ j = omega arith in
          sym i_is ∙ (ap (λ k. get_or all k d) at ∙ (get_or_default all j d e j_in ∙ j_is))

  -- lists of these components that have each as often, both ascending, are one list
  same_list : (ds es : List FieldView) → All (Contains all) ds → All (Contains all) es → ((f : FieldView → ℕ) → sum_by f ds ≡ sum_by f es) →
      IsAscending ds → IsAscending es → ds ≡ es
  same_list [] [] in_ds in_es as_often up_ds up_es = refl
  same_list [] (e ∷ es) in_ds in_es as_often up_ds up_es = let f = as_often (λ _. 1) ∙ sum_by-cons (λ _. 1) e es in absurd (omega (arith, f))
  same_list (d ∷ ds) [] in_ds in_es as_often up_ds up_es = let f = sym (as_often (λ _. 1)) ∙ sum_by-cons (λ _. 1) d ds in absurd (omega (arith, f))
  same_list (d ∷ ds) (e ∷ es) in_ds in_es as_often up_ds up_es = both (same_list ds es (tail d ds in_ds) (tail e es in_es))
    where
      tail : (x : FieldView) (xs : List FieldView) → All (Contains all) (x ∷ xs) → All (Contains all) xs
      tail x xs inside k c lt = inside (suc k) c (omega arith)

      counts : (t : Tag) → count_of t (d ∷ ds) ≡ count_of t (e ∷ es)
      counts t = as_often (λ x. cond (tag_eq (key x) t) 1 0)

      level : key d ≡ key e
      level =
          IsAtMost-antisym (key d) (key e)
          (head_at_most d ds (key e) up_ds (subst (λ n. 0 < n) (sym (counts (key e))) (counts_itself e es)))
          (head_at_most e es (key d) up_es (subst (λ n. 0 < n) (counts (key d)) (counts_itself d ds)))

      first : d ≡ e
      first = same_view d e (in_ds 0 d (omega arith)) (in_es 0 e (omega arith)) level

      both : (((f : FieldView → ℕ) → sum_by f ds ≡ sum_by f es) → IsAscending ds → IsAscending es → ds ≡ es) → d ∷ ds ≡ e ∷ es
      both rest =
          let others = rest (λ f. let h = sym (sum_by-cons f d ds) ∙ (as_often f ∙ sum_by-cons f e es) in let g = ap f first in omega (arith, h, g)) up_ds.1 up_es.1 in
          λ i. first i ∷ others i

pub at_most_one_is_canonical : AtMostOneIsCanonical
at_most_one_is_canonical first second moved apart up_first up_second =
    same_list first apart first second (All-contains_itself first) (All-permutation (Contains first) first second moved (All-contains_itself first))
    (λ f. sym (sum_by-IsPermutation f first second moved)) (ascending first up_first) (ascending second up_second)
