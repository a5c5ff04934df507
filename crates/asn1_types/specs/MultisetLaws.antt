-- Counting tells whether two lists have the same elements, and to have the same elements is itself an equality. An
-- equality is symmetric and transitive; where each element is equal to itself, so is each list.
use Rattle.std.specs.Prelude.{◌≡◌, ◌↔◌, ℕ, ◌+◌, Bool, true, false, ◌==◌, ◌&&◌, nat_lt, ◌<◌, ◌≤◌, cond, List, [], ◌∷◌, IsPermutation, length, map, refl}
use Rattle.std.specs.List.{list_all}
use Rattle.std.specs.Cmp.{IsPartialEquivalence, IsEquivalence, partial_equiv_from_equiv, per_alike, equiv, both_ways}
use Rattle.std.specs.Cmp.Derive.{both_true}
use Rattle.std.specs.Cmp.Lexicographic.{pointwise, lists_per, lists_equiv}
use Rattle.std.proofs.Common.{sym, ap, subst, arith, ◌∙◌}
use Rattle.std.proofs.Math.Nat.{add_left_cancel, le_refl, suc_inj, suc-ne-zero, zero-add}
use Rattle.std.proofs.lemmas.Bool.{and_parts, eq-eqb, eqb-true, false≢true, lt-ltb}
use Rattle.std.proofs.lemmas.List.Sorted.{All-permutation, IsPermutation-cons, IsPermutation-middle, IsPermutation-refl, IsPermutation-trans, length_permutation, sum_by-IsPermutation}
use Rattle.std.proofs.lemmas.List.Sums.{AllPass-from_list_all, list_all-from_AllPass, sum_by-cons}
use lib.ListN.{length-map}
use lib.Pointwise.{pointwise_long}
use Rattle.asn1_types.specs.Multisets.{SameElements, count_of, occurs_as_often, same_counts}

-- a rearrangement passes the tests that the list does
list_all-permutation : {T : Type 0} (p : T → Bool) (xs ys : List T) → IsPermutation xs ys → list_all p xs ≡ true → list_all p ys ≡ true
list_all-permutation p xs ys moved h =
    list_all-from_AllPass p ys (All-permutation (λ x. p x ≡ true) xs ys moved (AllPass-from_list_all p xs h))

module _ {T : Type 0} (eq : T → T → Bool) where
  -- one if z is equal to the element, else none
  abbrev one_if : T → T → ℕ
  one_if z x = cond (eq z x) 1 0

  count_of-cons : (z x : T) (xs : List T) → count_of eq z (x ∷ xs) ≡ one_if z x + count_of eq z xs
  count_of-cons z x xs = sum_by-cons (one_if z) x xs

  -- a rearrangement has as many of each
  count_of-permutation : (z : T) (xs ys : List T) → IsPermutation xs ys → count_of eq z xs ≡ count_of eq z ys
  count_of-permutation z xs ys moved = sym (sum_by-IsPermutation (one_if z) xs ys moved)

  -- at least one and at least as many, where the front is counted too
  one_at_least : (z x : T) (xs : List T) {n : ℕ} → eq z x ≡ true → count_of eq z (x ∷ xs) ≤ n → 0 < n
  one_at_least z x xs {n} e le =
      let counted : 1 + count_of eq z xs ≤ n = subst (λ c. c ≤ n) (count_of-cons z x xs ∙ ap (λ b. cond b 1 0 + count_of eq z xs) e) le in
      omega arith

  no_fewer : (z x : T) (xs : List T) {n : ℕ} → count_of eq z (x ∷ xs) ≤ n → count_of eq z xs ≤ n
  no_fewer z x xs {n} le =
      let counted : one_if z x + count_of eq z xs ≤ n = subst (λ c. c ≤ n) (count_of-cons z x xs) le in
      omega arith

  -- whether each of the first elements is equal to one of the second
  abbrev all_found : List T → List T → Bool
  all_found zs xs = list_all (λ z. nat_lt 0 (count_of eq z xs)) zs

  -- the elements of a list that is element by element equal to others are found where there are as many as of these
  found_by : (xs zs others : List T) → ((z : T) → count_of eq z others ≤ count_of eq z xs) → pointwise eq zs others ≡ true →
      all_found zs xs ≡ true
  found_by xs [] others as_many h = refl
  found_by xs (z ∷ zs) [] as_many h = absurd (false≢true h)
  found_by xs (z ∷ zs) (o ∷ others) as_many h =
      let equal = and_parts (eq z o) (pointwise eq zs others) h in
      both_true
      (lt-ltb 0 (count_of eq z xs) (one_at_least z o others equal.0 (as_many z)))
      (found_by xs zs others (λ y. no_fewer y o others (as_many y)) equal.1)

  -- if there are equally many of each, and some, counting agrees
  all_counted : (zs xs ys : List T) → all_found zs xs ≡ true → ((z : T) → count_of eq z xs ≡ count_of eq z ys) →
      list_all (occurs_as_often eq xs ys) zs ≡ true
  all_counted [] xs ys found h = refl
  all_counted (z ∷ zs) xs ys found h =
      let parts = and_parts (nat_lt 0 (count_of eq z xs)) (all_found zs xs) found in
      both_true (both_true parts.0 (eq-eqb _ _ (h z))) (all_counted zs xs ys parts.1 h)

  counted : (xs ys : List T) → length xs ≡ length ys → all_found xs xs ≡ true → ((z : T) → count_of eq z xs ≡ count_of eq z ys) →
      same_counts eq xs ys ≡ true
  counted xs ys l found h = both_true (eq-eqb _ _ l) (all_counted xs xs ys found h)

  -- counting looks at the lengths, and finds each element
  pub same_length : (xs ys : List T) → same_counts eq xs ys ≡ true → length xs ≡ length ys
  same_length xs ys h = eqb-true (length xs) (length ys) (and_parts _ _ h).0

  all_stand : (xs ys : List T) → same_counts eq xs ys ≡ true → list_all (occurs_as_often eq xs ys) xs ≡ true
  all_stand xs ys h = (and_parts (length xs == length ys) (list_all (occurs_as_often eq xs ys) xs) h).1

  found_of : (zs xs ys : List T) → list_all (occurs_as_often eq xs ys) zs ≡ true → all_found zs xs ≡ true
  found_of [] xs ys h = refl
  found_of (z ∷ zs) xs ys h =
      let parts = and_parts (occurs_as_often eq xs ys z) (list_all (occurs_as_often eq xs ys) zs) h in
      let found = and_parts (nat_lt 0 (count_of eq z xs)) (count_of eq z xs == count_of eq z ys) parts.0 in
      both_true found.0 (found_of zs xs ys parts.1)

module _ {T : Type 0} {eq : T → T → Bool} (laws : IsPartialEquivalence eq) where
  -- an element that equals one of two equal elements equals the other, and one that equals any equals itself
  one_if-equal : (z x y : T) → eq x y ≡ true → one_if eq z x ≡ one_if eq z y
  one_if-equal z x y e = ap (λ b. cond b 1 0) (laws.symm z x ∙ per_alike laws x y z e ∙ laws.symm y z)

  equal_to_itself : (x y : T) → eq x y ≡ true → eq x x ≡ true
  equal_to_itself x y e = laws.trans x y x e (laws.symm y x ∙ e)

  count_of-pointwise : (z : T) (xs ys : List T) → pointwise eq xs ys ≡ true → count_of eq z xs ≡ count_of eq z ys
  count_of-pointwise z [] [] h = refl
  count_of-pointwise z [] (y ∷ ys) h = absurd (false≢true h)
  count_of-pointwise z (x ∷ xs) [] h = absurd (false≢true h)
  count_of-pointwise z (x ∷ xs) (y ∷ ys) h =
      let equal = and_parts (eq x y) (pointwise eq xs ys) h in
      count_of-cons eq z x xs
      ∙ ap (λ n. n + count_of eq z xs) (one_if-equal z x y equal.0)
      ∙ ap (λ n. one_if eq z y + n) (count_of-pointwise z xs ys equal.1)
      ∙ sym (count_of-cons eq z y ys)

  -- lists with the same elements are as long, and have as many of each
  as_long : (xs ys : List T) → SameElements eq xs ys → length xs ≡ length ys
  as_long xs ys same = pointwise_long eq xs same.order same.equal ∙ sym (length_permutation same.order ys same.rearranged)

  as_many : (xs ys : List T) → SameElements eq xs ys → (z : T) → count_of eq z xs ≡ count_of eq z ys
  as_many xs ys same z = count_of-pointwise z xs same.order same.equal ∙ count_of-permutation eq z same.order ys same.rearranged

  -- each element of the one is found there, and each of the other too
  found_where_same : (xs ys : List T) → SameElements eq xs ys → all_found eq xs xs ≡ true
  found_where_same xs ys same =
      found_by eq xs xs same.order
      (λ z. subst (λ n. n ≤ count_of eq z xs) (count_of-pointwise z xs same.order same.equal) (le_refl (count_of eq z xs)))
      same.equal

  others_found_where_same : (xs ys : List T) → SameElements eq xs ys → all_found eq ys ys ≡ true
  others_found_where_same xs ys same =
      list_all-permutation (λ z. nat_lt 0 (count_of eq z ys)) same.order ys same.rearranged
      (found_by eq ys same.order xs
      (λ z. subst (λ n. count_of eq z xs ≤ n) (as_many xs ys same z) (le_refl (count_of eq z xs)))
      ((lists_per laws).symm same.order xs ∙ same.equal))

  counted_where_same : (xs ys : List T) → SameElements eq xs ys → same_counts eq xs ys ≡ true
  counted_where_same xs ys same = counted eq xs ys (as_long xs ys same) (found_where_same xs ys same) (as_many xs ys same)

  turned_where_same : (xs ys : List T) → SameElements eq xs ys → same_counts eq ys xs ≡ true
  turned_where_same xs ys same =
      counted eq ys xs (sym (as_long xs ys same)) (others_found_where_same xs ys same) (λ z. sym (as_many xs ys same z))

  -- an element of the list that is equal to x, and the others
  record Taken (x : T) (ys : List T) : Type 0 where
    element : T
    others : List T
    equal : eq x element ≡ true
    rearranged : IsPermutation (element ∷ others) ys

  -- if there is one, one can be taken
  take_one : (x : T) (ys : List T) → nat_lt 0 (count_of eq x ys) ≡ true → Taken x ys
  take_one x [] found = absurd (false≢true found)
  take_one x (y ∷ ys) found = by_test (eq x y) refl (take_one x ys)
    where
      by_test : (b : Bool) → eq x y ≡ b → (nat_lt 0 (count_of eq x ys) ≡ true → Taken x ys) → Taken x (y ∷ ys)
      by_test true equal later = record { element = y; others = ys; equal = equal; rearranged = IsPermutation-refl (y ∷ ys) }
      by_test false differs later =
          let fewer = later (
          subst (λ n. nat_lt 0 n ≡ true)
          (count_of-cons eq x y ys ∙ ap (λ b. cond b 1 0 + count_of eq x ys) differs ∙ zero-add (count_of eq x ys))
          found) in
          record {
            element = fewer.element;
            others = y ∷ fewer.others;
            equal = fewer.equal;
            rearranged =
                IsPermutation-trans (fewer.element ∷ y ∷ fewer.others) (y ∷ fewer.element ∷ fewer.others) (y ∷ ys)
                (IsPermutation-middle (fewer.element ∷ []) y fewer.others)
                (IsPermutation-cons y (fewer.element ∷ fewer.others) ys fewer.rearranged);
          }

  -- whether each element is equal to itself, and to as many of the second list as of the first
  abbrev all_kept : List T → List T → List T → Bool
  all_kept zs xs ys = list_all (λ z. eq z z && (count_of eq z xs == count_of eq z ys)) zs

  kept_where_counted : (zs xs ys : List T) → list_all (occurs_as_often eq xs ys) zs ≡ true → all_kept zs xs ys ≡ true
  kept_where_counted [] xs ys h = refl
  kept_where_counted (z ∷ zs) xs ys h =
      let parts = and_parts (occurs_as_often eq xs ys z) (list_all (occurs_as_often eq xs ys) zs) h in
      let often = and_parts (nat_lt 0 (count_of eq z xs)) (count_of eq z xs == count_of eq z ys) parts.0 in
      let one = take_one z xs often.0 in
      both_true (both_true (equal_to_itself z one.element one.equal) often.1) (kept_where_counted zs xs ys parts.1)

  -- one less of each in both lists
  one_less : (z x : T) (xs ys : List T) (one : Taken x ys) → count_of eq z (x ∷ xs) ≡ count_of eq z ys →
      count_of eq z xs ≡ count_of eq z one.others
  one_less z x xs ys one e =
      add_left_cancel (one_if eq z x)
      (sym (count_of-cons eq z x xs)
      ∙ e
      ∙ sym (count_of-permutation eq z (one.element ∷ one.others) ys one.rearranged)
      ∙ count_of-cons eq z one.element one.others
      ∙ ap (λ n. n + count_of eq z one.others) (sym (one_if-equal z x one.element one.equal)))

  all_one_less : (zs : List T) (x : T) (xs ys : List T) (one : Taken x ys) → all_kept zs (x ∷ xs) ys ≡ true →
      all_kept zs xs one.others ≡ true
  all_one_less [] x xs ys one h = refl
  all_one_less (z ∷ zs) x xs ys one h =
      let parts = and_parts (eq z z && (count_of eq z (x ∷ xs) == count_of eq z ys)) (all_kept zs (x ∷ xs) ys) h in
      let kept = and_parts (eq z z) (count_of eq z (x ∷ xs) == count_of eq z ys) parts.0 in
      both_true
      (both_true kept.0 (eq-eqb _ _ (one_less z x xs ys one (eqb-true (count_of eq z (x ∷ xs)) (count_of eq z ys) kept.1))))
      (all_one_less zs x xs ys one parts.1)

  -- an element that is in the second list as often as in the first, where it is the front, can be taken from it
  take_first : (x : T) (xs ys : List T) → (eq x x && (count_of eq x (x ∷ xs) == count_of eq x ys)) ≡ true → Taken x ys
  take_first x xs ys h =
      let kept = and_parts (eq x x) (count_of eq x (x ∷ xs) == count_of eq x ys) h in
      let as_many = eqb-true (count_of eq x (x ∷ xs)) (count_of eq x ys) kept.1 in
      take_one x ys
      (lt-ltb 0 (count_of eq x ys)
      (one_at_least eq x x xs kept.0 (subst (λ n. count_of eq x (x ∷ xs) ≤ n) as_many (le_refl (count_of eq x (x ∷ xs))))))

  -- an element taken in front of others with the same elements
  one_more : {x : T} {xs ys : List T} (one : Taken x ys) → ((taken : Taken x ys) → SameElements eq xs taken.others) → SameElements eq (x ∷ xs) ys
  one_more {ys = ys} one rest =
      let others = rest one in
      record {
        order = one.element ∷ others.order;
        rearranged =
            IsPermutation-trans (one.element ∷ others.order) (one.element ∷ one.others) ys
            (IsPermutation-cons one.element others.order one.others others.rearranged)
            one.rearranged;
        equal = both_true one.equal others.equal;
      }

  -- if each element of the first list is as often in the second, which is as long, they have the same elements
  same_where_kept : (xs ys : List T) → length xs ≡ length ys → all_kept xs xs ys ≡ true → SameElements eq xs ys
  same_where_kept [] [] l h = record { order = []; rearranged = IsPermutation-refl []; equal = refl }
  same_where_kept [] (y ∷ ys) l h = absurd (suc-ne-zero (length ys) (sym l))
  same_where_kept (x ∷ xs) ys l h =
      let parts = and_parts (eq x x && (count_of eq x (x ∷ xs) == count_of eq x ys)) (all_kept xs (x ∷ xs) ys) h in
      one_more (take_first x xs ys parts.0) (λ one.
      same_where_kept xs one.others (suc_inj (l ∙ length_permutation (one.element ∷ one.others) ys one.rearranged)) (all_one_less xs x xs ys one parts.1))

  same_where_counted : (xs ys : List T) → same_counts eq xs ys ≡ true → SameElements eq xs ys
  same_where_counted xs ys h =
      same_where_kept xs ys (same_length eq xs ys h) (kept_where_counted xs xs ys (all_stand eq xs ys h))

  -- counting decides whether two lists have the same elements
  pub same_counts-SameElements : (xs ys : List T) → (same_counts eq xs ys ≡ true) ↔ SameElements eq xs ys
  same_counts-SameElements xs ys = (same_where_counted xs ys, counted_where_same xs ys)

  counts : (xs ys : List T) → same_counts eq xs ys ≡ true → (z : T) → count_of eq z xs ≡ count_of eq z ys
  counts xs ys h = as_many xs ys (same_where_counted xs ys h)

  -- to have the same elements is symmetric and transitive
  pub same_counts-partial : IsPartialEquivalence (same_counts eq)
  same_counts-partial = record {
    symm = λ xs ys.
        both_ways (same_counts eq xs ys) (same_counts eq ys xs)
        (λ h. turned_where_same xs ys (same_where_counted xs ys h))
        (λ h. turned_where_same ys xs (same_where_counted ys xs h));
    trans = λ xs ys zs p q.
        counted eq xs zs
        (same_length eq xs ys p ∙ same_length eq ys zs q)
        (found_of eq xs xs ys (all_stand eq xs ys p))
        (λ z. counts xs ys p z ∙ counts ys zs q z);
  }

-- and where each element is equal to itself, so is each list
pub same_counts-equiv : {T : Type 0} {eq : T → T → Bool} → IsEquivalence eq → IsEquivalence (same_counts eq)
same_counts-equiv {eq = eq} laws =
    equiv
    (same_counts-partial (partial_equiv_from_equiv laws))
    (λ xs. counted eq xs xs refl (found_by eq xs xs xs (λ z. le_refl (count_of eq z xs)) ((lists_equiv laws).refl xs)) (λ _. refl))

-- Mapping two lists by a function keeps how often each element occurs, by the equality along the function.
module _ {S T : Type 0} (h : S → T) (eq : T → T → Bool) where
  count_of-map : (x : S) (xs : List S) → count_of eq (h x) (map h xs) ≡ count_of (λ y z. eq (h y) (h z)) x xs
  count_of-map x [] = refl
  count_of-map x (y ∷ ys) =
      count_of-cons eq (h x) (h y) (map h ys)
      ∙ ap (λ n. one_if eq (h x) (h y) + n) (count_of-map x ys)
      ∙ sym (count_of-cons (λ y z. eq (h y) (h z)) x y ys)

  all_counted-map : (zs xs ys : List S) →
      list_all (occurs_as_often eq (map h xs) (map h ys)) (map h zs) ≡ list_all (occurs_as_often (λ y z. eq (h y) (h z)) xs ys) zs
  all_counted-map [] xs ys = refl
  all_counted-map (z ∷ zs) xs ys = λ i. (nat_lt 0 (count_of-map z xs i) && (count_of-map z xs i == count_of-map z ys i)) && all_counted-map zs xs ys i

  pub same_counts-map : (xs ys : List S) → same_counts eq (map h xs) (map h ys) ≡ same_counts (λ x y. eq (h x) (h y)) xs ys
  same_counts-map xs ys = λ i. (length-map xs h i == length-map ys h i) && all_counted-map xs xs ys i
