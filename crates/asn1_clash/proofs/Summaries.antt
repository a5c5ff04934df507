-- The summary of a tree, from its leaves in order.
use Rattle.std.proofs.Common.{◌≡◌, ◌+◌, ◌<◌, Bool, true, false, List, [], ◌∷◌, length, get_or, refl, sym, ap, subst, ◌∙◌, arith}
use Rattle.std.specs.Prelude.{◌↔◌, IsTrue, slice_get, unwrap_or}
use Rattle.std.specs.List.{AllAdjacentBelow, IsAllAdjacentAnswer}
use Rattle.std.specs.List.Sorted.{IsPermutation, IsSorted}
use Rattle.std.specs.Ordering.{is_lt}
use Rattle.std.specs.declared.cmp.Ordering.{Ordering}
use Rattle.std.specs.declared.cmp.Ordering.TheVariants.{Less, Equal, Greater}
use Rattle.std.specs.Cmp.{IsStrictWeakOrder}
use Rattle.std.proofs.lemmas.Bool.{false≢true}
use Rattle.std.proofs.lemmas.List.Sorted.{ranks_by, sorted_far, length_permutation, All-permutation, Contains-permutation, IsPermutation-sym}
use Rattle.std.specs.Bool.{Decides}
use Rattle.std.proofs.lemmas.Bool.Decides.{nat_tests}
use Rattle.std.proofs.lemmas.Grind.{common_steps}
use Rattle.std.proofs.lemmas.Map.Keys.{IsDistinct-IsPermutation}
use Rattle.std.proofs.lemmas.Map.Made.{AllPairs-from_IsDistinct, IsDistinct-from_AllPairs}
use Rattle.asn1_tags.specs.declared.tags.Tag.{Tag}
use Rattle.asn1_tags.specs.Tags.{IsAtMost, distinct, greatest, smallest, tag_cmp, tag_eq}
use Rattle.asn1_tags.specs.OrderLaws.{tag_total}
use Rattle.asn1_tags.proofs.Smallest.{IsAtMost-from_not_less, IsAtMost-antisym, smallest-from_is, smallest-is}
use Rattle.asn1_tags.proofs.TagListTests.{AllPairs-from_distinct, distinct-from_AllPairs, tag_eq-refl, tag_eq-true}

pub tags_ranked : IsStrictWeakOrder (λ s t. is_lt (tag_cmp s t))
tags_ranked = ranks_by tag_total (λ t. t)

-- a test that says whether one comes before the other
pub tells_less : (r : Bool) (o : Ordering) → (IsTrue r ↔ (o ≡ Less)) → r ≡ is_lt o
tells_less true o says = ap is_lt (sym (says.0 refl))
tells_less false Less says = says.1 refl
tells_less false Equal says = refl
tells_less false Greater says = refl

-- no tag occurs twice among tags of which each comes before the next
distinct-from_rising : (ts : List Tag) → IsSorted tag_cmp ts → AllAdjacentBelow (λ s t. true ≡ is_lt (tag_cmp s t)) ts (length ts) → distinct ts ≡ true
distinct-from_rising ts up rising =
    distinct-from_AllPairs ts
    (λ i j d lt within same.
    let first = rising i d (omega arith) in
    let far = sorted_far (λ s t. is_lt (tag_cmp s t)) tags_ranked ts up (i + 1) j d (omega arith) within in
    false≢true (sym (subst (λ t. is_lt (tag_cmp t (get_or ts (i + 1) d)) ≡ false) (sym same) far) ∙ sym first))

-- a tag that does not come before the next one is that one
repeated-from_level : (ts : List Tag) (k : _) → IsSorted tag_cmp ts → k + 1 < length ts → ((d : Tag) → false ≡ is_lt (tag_cmp (get_or ts k d) (get_or ts (k + 1) d))) →
    distinct ts ≡ false
repeated-from_level [] k up within level = absurd (omega arith)
repeated-from_level (t ∷ ts) k up within level = by_test (distinct (t ∷ ts)) refl
  where
    by_test : (b : Bool) → distinct (t ∷ ts) ≡ b → b ≡ false
    by_test false is = refl
    by_test true is =
        let below = IsAtMost-from_not_less (get_or (t ∷ ts) k t) (get_or (t ∷ ts) (k + 1) t) (sym (level t)) in
        let above = IsAtMost-from_not_less (get_or (t ∷ ts) (k + 1) t) (get_or (t ∷ ts) k t) (up k t (omega arith) within) in
        absurd (AllPairs-from_distinct (t ∷ ts) is k (k + 1) t (omega arith) within (IsAtMost-antisym _ _ above below))

-- in order, no tag occurs twice if and only if each is below the next
pub distinct-in_order : (ts : List Tag) (r : Bool) → IsSorted tag_cmp ts → IsAllAdjacentAnswer (λ s t b. b ≡ is_lt (tag_cmp s t)) ts r → r ≡ distinct ts
distinct-in_order ts true up answer = sym (distinct-from_rising ts up answer)
distinct-in_order ts false up answer = sym (repeated-from_level ts answer.0 up answer.1 answer.2)

-- in order, the first tag is the smallest
pub smallest-in_order : (ts : List Tag) → IsSorted tag_cmp ts → unwrap_or (slice_get ts 0) greatest ≡ smallest ts
smallest-in_order [] up = refl
smallest-in_order (t ∷ ts) up =
    smallest-from_is (t ∷ ts) t
    (record {
      among = λ _. (0, omega arith, refl);
      least = λ k d within. IsAtMost-from_not_less (get_or (t ∷ ts) k d) t (sorted_far (λ s u. is_lt (tag_cmp s u)) tags_ranked (t ∷ ts) up 0 k d (omega arith) within);
      none = λ nothing. absurd (some_not_none nothing);
    })
  where
    some_not_none : t ∷ ts ≡ [] → ⊥
    some_not_none h = cc

tag_eq-decides : (s t : Tag) → Decides (tag_eq s t) (s ≡ t)
tag_eq-decides s t = by_test (tag_eq s t) refl
  where
    by_test : (b : Bool) → tag_eq s t ≡ b → Decides b (s ≡ t)
    by_test true is = (λ _. tag_eq-true s t is, λ _. refl)
    by_test false is = (λ said. absurd (false≢true said), λ same. absurd (false≢true (sym is ∙ (ap (λ u. tag_eq u t) same ∙ tag_eq-refl t))))

tag_eq-flips : (s t : Tag) → tag_eq s t ≡ tag_eq t s
tag_eq-flips s t = grind (arith, common_steps, nat_tests)

distinct-kept : (xs ys : List Tag) → IsPermutation xs ys → distinct xs ≡ true → distinct ys ≡ true
distinct-kept xs ys moved apart =
    distinct-from_AllPairs ys
    (AllPairs-from_IsDistinct tag_eq-decides ys
    (IsDistinct-IsPermutation tag_eq tag_eq-flips xs ys moved (IsDistinct-from_AllPairs tag_eq-decides xs (AllPairs-from_distinct xs apart))))

pub distinct-permutation : (xs ys : List Tag) → IsPermutation xs ys → distinct ys ≡ distinct xs
distinct-permutation xs ys moved = by_tests (distinct xs) (distinct ys) refl refl
  where
    by_tests : (p q : Bool) → distinct xs ≡ p → distinct ys ≡ q → q ≡ p
    by_tests true q is also = sym also ∙ distinct-kept xs ys moved is
    by_tests false false is also = refl
    by_tests false true is also = absurd (false≢true (sym is ∙ distinct-kept ys xs (IsPermutation-sym xs ys moved) also))

nothing_moved : (xs ys : List Tag) → IsPermutation xs ys → xs ≡ [] → ys ≡ []
nothing_moved xs [] moved nothing = refl
nothing_moved xs (y ∷ ys) moved nothing = absurd (let same = length_permutation xs (y ∷ ys) moved in let none = ap length nothing in omega arith)

pub smallest-permutation : (xs ys : List Tag) → IsPermutation xs ys → smallest ys ≡ smallest xs
smallest-permutation xs ys moved =
    let is = smallest-is xs in
    sym
    (smallest-from_is ys (smallest xs)
    (record {
      among = λ some. Contains-permutation xs ys (smallest xs) moved (is.among (λ nothing. some (nothing_moved xs ys moved nothing)));
      least = All-permutation (IsAtMost (smallest xs)) xs ys moved is.least;
      none = λ nothing. is.none (nothing_moved ys xs (IsPermutation-sym xs ys moved) nothing);
    }))
