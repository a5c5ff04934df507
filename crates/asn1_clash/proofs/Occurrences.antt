-- The first clash of components, from their leaves in order.
use Rattle.std.proofs.Common.{◌≡◌, ◌≢◌, ◌⊎◌, inl, inr, ℕ, zero, suc, ◌+◌, ◌-◌, ◌<◌, ◌≤◌, Bool, true, false, cond, ◌||◌, ◌&&◌, ◌==◌, not, Option, Some, None, List, [], ◌∷◌, ◌++◌, length, get_or, take, max, add-zero, append_assoc, length-take, eq-eqb, refl, sym, ap, ◌∙◌, subst, arith}
use Rattle.std.specs.Prelude.{Contains, IsTrue, slice_get, position}
use Rattle.std.specs.List.{position_or_len}
use Rattle.std.specs.List.Sorted.{IsPermutation, IsSorted}
use Rattle.std.specs.Ordering.{is_lt, nat_cmp, ordering_then}
use Rattle.std.specs.Cmp.{IsStrictWeakOrder, tied_itself}
use Rattle.std.specs.declared.cmp.Ordering.{Ordering}
use Rattle.std.specs.declared.cmp.Ordering.TheVariants.{Less, Equal, Greater}
use Rattle.std.proofs.lemmas.Bool.{cases_lt, cases_eq, false≢true, or_cases, or_left, or_right}
use Rattle.std.proofs.lemmas.Bool.Decides.{nat_tests}
use Rattle.std.proofs.lemmas.Cmp.{on_total, then_total, nat_cmp_total}
use Rattle.std.proofs.lemmas.Grind.{common_steps}
use Rattle.std.proofs.lemmas.Bool.{eqb-true}
use Rattle.std.proofs.lemmas.List.{get_or_default, take_all, take_more, length-map, map-append, append-nil}
use Rattle.std.proofs.lemmas.List.Elements.{Contains-append_left, Contains-append_right, Contains-append_cases}
use Rattle.std.proofs.lemmas.List.Quantifiers.{position-Some}
use Rattle.std.proofs.lemmas.List.Sorted.{ranks_by, sorted_far, Contains-permutation, IsPermutation-sym}
use Rattle.std.proofs.lemmas.List.Sums.{fails_before_first}
use Rattle.std.proofs.lemmas.Option.{get_or_from_slice_get, same_Some, slice_get-get_or, slice_get_within}
use Rattle.asn1_tags.specs.declared.tags.Tag.{Tag}
use Rattle.asn1_tags.specs.OrderLaws.{tag_total}
use Rattle.asn1_tags.specs.Tags.{IsAtMost, tag_cmp, tag_eq}
use Rattle.asn1_tags.specs.Trees.{is_open, leaves}
use Rattle.asn1_tags.specs.Walks.{have_common_tag}
use Rattle.asn1_tags.proofs.Smallest.{IsAtMost-from_not_less, IsAtMost-antisym}
use Rattle.asn1_tags.proofs.TagListTests.{tag_eq-true, tag_eq-refl}
use Rattle.asn1_fields.specs.FieldViews.{Component}
use Rattle.asn1_fields.specs.DistinctTags.{IsLeast, IsSetClash, IsUpTo, set_clash}
use Rattle.asn1_fields.proofs.Clashes.{set_clash-is}
use Rattle.asn1_fields.proofs.SharedTags.{open_or_leaf, tag-from_open_or_leaf, ShareTag-from_test}
use Rattle.asn1_clash.specs.declared.search.Occurrence.{Occurrence}
use Rattle.asn1_clash.specs.declared.flat_component.FlatComponent.{FlatComponent}
use Rattle.asn1_clash.specs.Views.{component_view, components_view}
use Rattle.asn1_clash.specs.Occurrences.{HasOpen, OccursTwice, lesser_pair, occurrence_cmp, occurrences, occurrences_at, pair_less, pair_of}

-- the order of pairs
IsUpTo-trans : (p q r : ℕ × ℕ) → IsUpTo p q → IsUpTo q r → IsUpTo p r
IsUpTo-trans p q r (inl a) (inl b) = inl (omega arith)
IsUpTo-trans p q r (inl a) (inr b) = inl (let e = b.0 in omega arith)
IsUpTo-trans p q r (inr a) (inl b) = inl (let e = a.0 in omega arith)
IsUpTo-trans p q r (inr a) (inr b) = inr (a.0 ∙ b.0, let e = a.1 in let f = b.1 in omega arith)

IsUpTo-antisym : (p q : ℕ × ℕ) → IsUpTo p q → IsUpTo q p → p ≡ q
IsUpTo-antisym p q (inl a) (inl b) = absurd (omega arith)
IsUpTo-antisym p q (inl a) (inr b) = absurd (let e = b.0 in omega arith)
IsUpTo-antisym p q (inr a) (inl b) = absurd (let e = a.0 in omega arith)
IsUpTo-antisym p q (inr a) (inr b) = let e = a.0 in let f = a.1 in let g = b.1 in let same : p.1 ≡ q.1 = omega arith in λ i. (e i, same i)

IsUpTo-from_less : (p q : ℕ × ℕ) → pair_less p q ≡ true → IsUpTo p q
IsUpTo-from_less p q h = by_order (cases_lt p.0 q.0)
  where
    by_order : (p.0 < q.0) ⊎ (q.0 ≤ p.0) → IsUpTo p q
    by_order (inl lt) = inl lt
    by_order (inr le) = inr (grind (arith, nat_tests, common_steps), grind (arith, nat_tests, common_steps))

IsUpTo-from_not_less : (p q : ℕ × ℕ) → pair_less p q ≡ false → IsUpTo q p
IsUpTo-from_not_less p q h = by_order (cases_lt q.0 p.0)
  where
    by_order : (q.0 < p.0) ⊎ (p.0 ≤ q.0) → IsUpTo q p
    by_order (inl lt) = inl lt
    by_order (inr le) = inr (grind (arith, nat_tests, common_steps), grind (arith, nat_tests, common_steps))

-- a relation has one least pair
pub least_alone : (P : ℕ → ℕ → Type 0) (r s : Option (ℕ × ℕ)) → IsLeast P r → IsLeast P s → r ≡ s
least_alone P None None h k = refl
least_alone P None (Some q) h k = absurd (h q.0 q.1 k.0)
least_alone P (Some p) None h k = absurd (k p.0 p.1 h.0)
least_alone P (Some p) (Some q) h k = ap Some (IsUpTo-antisym p q (h.1 q.0 q.1 k.0) (k.1 p.0 p.1 h.0))

-- the lesser of two least pairs is the least of both relations
pub least_of_two : (P Q R : ℕ → ℕ → Type 0) → ((i j : ℕ) → R i j → P i j ⊎ Q i j) → ((i j : ℕ) → P i j → R i j) → ((i j : ℕ) → Q i j → R i j) →
    (r s : Option (ℕ × ℕ)) → IsLeast P r → IsLeast Q s → IsLeast R (lesser_pair r s)
least_of_two P Q R which left right None None h k = λ i j found. elim (which i j found) [ inl p ↦ h i j p | inr q ↦ k i j q ]
least_of_two P Q R which left right None (Some q) h k =
    (right q.0 q.1 k.0, λ i j found. elim (which i j found) [ inl p ↦ absurd (h i j p) | inr u ↦ k.1 i j u ])
least_of_two P Q R which left right (Some p) None h k =
    (left p.0 p.1 h.0, λ i j found. elim (which i j found) [ inl u ↦ h.1 i j u | inr q ↦ absurd (k i j q) ])
least_of_two P Q R which left right (Some p) (Some q) h k = by_test (pair_less q p) refl
  where
    by_test : (b : Bool) → pair_less q p ≡ b → IsLeast R (Some (cond b q p))
    by_test true is =
        let before = IsUpTo-from_less q p is in
        (right q.0 q.1 k.0, λ i j found. elim (which i j found) [ inl u ↦ IsUpTo-trans q p (i, j) before (h.1 i j u) | inr u ↦ k.1 i j u ])
    by_test false is =
        let before = IsUpTo-from_not_less q p is in
        (left p.0 p.1 h.0, λ i j found. elim (which i j found) [ inl u ↦ h.1 i j u | inr u ↦ IsUpTo-trans p q (i, j) before (k.1 i j u) ])

-- a relation that has a pair before each of another's, and no others, has its least pair
pub least_before : (P Q : ℕ → ℕ → Type 0) → ((i j : ℕ) → P i j → Q i j) → ((i j : ℕ) → Q i j → (k : ℕ) × (l : ℕ) × P k l × IsUpTo (k, l) (i, j)) →
    (r : Option (ℕ × ℕ)) → IsLeast P r → IsLeast Q r
least_before P Q to ahead None h = λ i j q. let p = ahead i j q in h p.0 p.1 p.2
least_before P Q to ahead (Some p) h =
    (to p.0 p.1 h.0, λ i j q. let u = ahead i j q in IsUpTo-trans p (u.0, u.1) (i, j) (h.1 u.0 u.1 u.2) u.3)

-- the order of occurrences
pub occurrences_ranked : IsStrictWeakOrder (λ a b. is_lt (occurrence_cmp a b))
occurrences_ranked = ranks_by (then_total (on_total (λ (a : Occurrence). a.tag) tag_total) (on_total (λ (a : Occurrence). a.index) nat_cmp_total)) (λ a. a)

first_not_less : (o p : Ordering) → is_lt (ordering_then o p) ≡ false → is_lt o ≡ false
first_not_less Less p h = h
first_not_less Equal p h = refl
first_not_less Greater p h = refl

tag_not_above : (a b : Occurrence) → is_lt (occurrence_cmp b a) ≡ false → IsAtMost a.tag b.tag
tag_not_above a b h = IsAtMost-from_not_less b.tag a.tag (first_not_less (tag_cmp b.tag a.tag) (nat_cmp b.index a.index) h)

nat_not_above : (m n : ℕ) → is_lt (nat_cmp n m) ≡ false → m ≤ n
nat_not_above m n h = grind (arith, nat_tests, common_steps)

index_not_above : (a b : Occurrence) → is_lt (occurrence_cmp b a) ≡ false → a.tag ≡ b.tag → a.index ≤ b.index
index_not_above a b h same =
    let level : tag_cmp b.tag a.tag ≡ Equal = ap (tag_cmp b.tag) same ∙ tied_itself tag_total b.tag in
    nat_not_above a.index b.index (sym (ap (λ o. is_lt (ordering_then o (nat_cmp b.index a.index))) level) ∙ h)

-- among the first n occurrences, neighbours with one tag and these indices, which differ
pub record Neighbours (all : List Occurrence) (n i j : ℕ) : Type 0 where
  pub at : ℕ
  pub first : Occurrence
  pub second : Occurrence
  pub within : at + 1 < n
  pub fits : at + 1 < length all
  pub first_at : get_or all at first ≡ first
  pub second_at : get_or all (at + 1) second ≡ second
  pub same : first.tag ≡ second.tag
  pub first_index : first.index ≡ i
  pub second_index : second.index ≡ j
  pub differ : i ≢ j

pub no_neighbours : (all : List Occurrence) → IsLeast (Neighbours all 1) None
no_neighbours all i j h = let lt = h.within in omega arith

-- what comes later in order is not less
not_above : (all : List Occurrence) → IsSorted occurrence_cmp all → (x y : ℕ) (a b : Occurrence) → x ≤ y → y < length all → get_or all x a ≡ a → get_or all y b ≡ b →
    is_lt (occurrence_cmp b a) ≡ false
not_above all up x y a b le lt at_x at_y =
    let far = sorted_far (λ c d. is_lt (occurrence_cmp c d)) occurrences_ranked all up x y a le lt in
    let here : get_or all y a ≡ b = get_or_default all y a b lt ∙ at_y in
    sym (λ i. is_lt (occurrence_cmp (here i) (at_x i))) ∙ far

-- of two indices of one tag, the first has a neighbour up to the second
neighbour_of : (all : List Occurrence) → IsSorted occurrence_cmp all → (gap x y : ℕ) (t : Tag) (p q : ℕ) → y ≡ x + gap → y < length all → p < q →
    get_or all x (record { tag = t; index = p }) ≡ record { tag = t; index = p } →
    get_or all y (record { tag = t; index = q }) ≡ record { tag = t; index = q } →
    (k : ℕ) × (l : ℕ) × Neighbours all (length all) k l × IsUpTo (k, l) (p, q)
neighbour_of all up zero x y t p q is lt less at_x at_y =
    let same : x ≡ y = omega arith in
    let here : record { tag = t; index = q } ≡ record { tag = t; index = p } =
    sym at_y ∙ (get_or_default all y _ _ lt ∙ (ap (λ k. get_or all k (record { tag = t; index = p })) (sym same) ∙ at_x)) in
    absurd (let indices : q ≡ p = ap (λ a. a.index) here in omega arith)
neighbour_of all up (suc gap) x y t p q is lt less at_x at_y =
    by_index (cases_eq b.index p) (λ at_next. neighbour_of all up gap (x + 1) y t p q (omega arith) lt less at_next at_y)
  where
    a : Occurrence
    a = record { tag = t; index = p }

    c : Occurrence
    c = record { tag = t; index = q }

    b : Occurrence
    b = get_or all (x + 1) a

    b_at : get_or all (x + 1) b ≡ b
    b_at = get_or_default all (x + 1) b a (omega arith)

    lower : is_lt (occurrence_cmp b a) ≡ false
    lower = not_above all up x (x + 1) a b (omega arith) (omega arith) at_x b_at

    upper : is_lt (occurrence_cmp c b) ≡ false
    upper = not_above all up (x + 1) y b c (omega arith) lt b_at at_y

    same : t ≡ b.tag
    same = IsAtMost-antisym t b.tag (tag_not_above a b lower) (tag_not_above b c upper)

    by_index : (b.index ≡ p) ⊎ (b.index ≡ p → ⊥) → (b ≡ a → (k : ℕ) × (l : ℕ) × Neighbours all (length all) k l × IsUpTo (k, l) (p, q)) →
        (k : ℕ) × (l : ℕ) × Neighbours all (length all) k l × IsUpTo (k, l) (p, q)
    by_index (inl level) again = again (λ i. record { tag = sym same i; index = level i })
    by_index (inr apart) again =
        let bound : b.index ≤ q = index_not_above b c upper (sym same) in (
          p,
          b.index,
          record {
            at = x;
            first = a;
            second = b;
            within = omega arith;
            fits = omega arith;
            first_at = at_x;
            second_at = b_at;
            same = same;
            first_index = refl;
            second_index = refl;
            differ = λ e. apart (sym e);
          },
          inr (refl, bound),
        )

-- which of two indices comes first
ordered_indices : (all : List Occurrence) → IsSorted occurrence_cmp all → (x y : ℕ) (t : Tag) (p q : ℕ) → x < length all → p < q →
    get_or all x (record { tag = t; index = p }) ≡ record { tag = t; index = p } →
    get_or all y (record { tag = t; index = q }) ≡ record { tag = t; index = q } → x < y
ordered_indices all up x y t p q lt less at_x at_y = by_order (cases_lt x y)
  where
    by_order : (x < y) ⊎ (y ≤ x) → x < y
    by_order (inl before) = before
    by_order (inr after) =
        let a : Occurrence = record { tag = t; index = p } in
        let c : Occurrence = record { tag = t; index = q } in
        absurd (let le = index_not_above c a (not_above all up y x c a after lt at_y at_x) refl in omega arith)

-- a tag that occurs at two indices has neighbours up to these
pub neighbours_ahead : (all : List Occurrence) → IsSorted occurrence_cmp all → (i j : ℕ) → OccursTwice all i j →
    (k : ℕ) × (l : ℕ) × Neighbours all (length all) k l × IsUpTo (k, l) (i, j)
neighbours_ahead all up i j h =
    let x = h.at_first in
    let y = h.at_second in
    let before = ordered_indices all up x.0 y.0 h.tag i j x.1 h.before x.2 y.2 in
    neighbour_of all up (y.0 - x.0) x.0 y.0 h.tag i j (omega arith) y.1 h.before x.2 y.2

-- neighbours are such indices
pub neighbours_occur : (all : List Occurrence) → IsSorted occurrence_cmp all → (n i j : ℕ) → Neighbours all n i j → OccursTwice all i j
neighbours_occur all up n i j h =
    let le = index_not_above h.first h.second (not_above all up h.at (h.at + 1) h.first h.second (omega arith) h.fits h.first_at h.second_at) h.same in
    let e = h.first_index in
    let f = h.second_index in
    let differ : i ≢ j = h.differ in
    let first : record { tag = h.first.tag; index = i } ≡ h.first = λ k. record { tag = h.first.tag; index = sym e k } in
    let second : record { tag = h.first.tag; index = j } ≡ h.second = λ k. record { tag = h.same k; index = sym f k } in
    let lt = h.fits in
    record {
      tag = h.first.tag;
      before = omega arith;
      at_first = (h.at, omega arith, subst (λ o. get_or all h.at o ≡ o) (sym first) h.first_at);
      at_second = (h.at + 1, h.fits, subst (λ o. get_or all (h.at + 1) o ≡ o) (sym second) h.second_at);
    }

-- in order, the least neighbours are the least indices at which a tag occurs twice
pub twice_from_neighbours : (all : List Occurrence) → IsSorted occurrence_cmp all → (r : Option (ℕ × ℕ)) → IsLeast (Neighbours all (length all)) r → IsLeast (OccursTwice all) r
twice_from_neighbours all up r h =
    least_before (Neighbours all (length all)) (OccursTwice all) (neighbours_occur all up (length all)) (neighbours_ahead all up) r h

-- one neighbour more
abbrev IsPair : ℕ × ℕ → ℕ → ℕ → Type 0
IsPair p i j = (p.0 ≡ i) × (p.1 ≡ j)

pair_alone : (p : ℕ × ℕ) → IsLeast (IsPair p) (Some p)
pair_alone p = ((refl, refl), λ i j e. inr (e.0, let f = e.1 in omega arith))

-- neighbours among the first n are neighbours among the first m, where both are among these
among : (all : List Occurrence) (n m i j : ℕ) (u : Neighbours all n i j) → u.at + 1 < m → Neighbours all m i j
among all n m i j u lt = record {
  at = u.at;
  first = u.first;
  second = u.second;
  within = lt;
  fits = u.fits;
  first_at = u.first_at;
  second_at = u.second_at;
  same = u.same;
  first_index = u.first_index;
  second_index = u.second_index;
  differ = u.differ;
}

fewer : (all : List Occurrence) (n i j : ℕ) → Neighbours all n i j → Neighbours all (n + 1) i j
fewer all n i j u = among all n (n + 1) i j u (let lt = u.within in omega arith)

-- the last neighbours are these two
last_two : (all : List Occurrence) (n : ℕ) (a b : Occurrence) → 1 ≤ n → n < length all → get_or all (n - 1) a ≡ a → get_or all n b ≡ b →
    (i j : ℕ) (u : Neighbours all (n + 1) i j) → n ≤ u.at + 1 → (a ≡ u.first) × (b ≡ u.second)
last_two all n a b some lt at_a at_b i j u last =
    let bound = u.within in
    let here : u.at ≡ n - 1 = omega arith in
    let next : u.at + 1 ≡ n = omega arith in (
      sym at_a ∙ (get_or_default all (n - 1) a u.first (omega arith) ∙ (ap (λ k. get_or all k u.first) (sym here) ∙ u.first_at)),
      sym at_b ∙ (get_or_default all n b u.second lt ∙ (ap (λ k. get_or all k u.second) (sym next) ∙ u.second_at)),
    )

pub neighbours_more : (all : List Occurrence) (n : ℕ) (a b : Occurrence) (r : Option (ℕ × ℕ)) → 1 ≤ n → n < length all →
    get_or all (n - 1) a ≡ a → get_or all n b ≡ b → a.tag ≡ b.tag → a.index ≢ b.index →
    IsLeast (Neighbours all n) r → IsLeast (Neighbours all (n + 1)) (lesser_pair r (Some (a.index, b.index)))
neighbours_more all n a b r some lt at_a at_b same differ h =
    least_of_two (Neighbours all n) (IsPair (a.index, b.index)) (Neighbours all (n + 1)) which (fewer all n) right r (Some (a.index, b.index)) h (pair_alone (a.index, b.index))
  where
    which : (i j : ℕ) → Neighbours all (n + 1) i j → Neighbours all n i j ⊎ IsPair (a.index, b.index) i j
    which i j u = by_order (cases_lt (u.at + 1) n)
      where
        by_order : (u.at + 1 < n) ⊎ (n ≤ u.at + 1) → Neighbours all n i j ⊎ IsPair (a.index, b.index) i j
        by_order (inl within) = inl (among all (n + 1) n i j u within)
        by_order (inr last) =
            let these = last_two all n a b some lt at_a at_b i j u last in
            inr (ap (λ o. o.index) these.0 ∙ u.first_index, ap (λ o. o.index) these.1 ∙ u.second_index)

    right : (i j : ℕ) → IsPair (a.index, b.index) i j → Neighbours all (n + 1) i j
    right i j e =
        let next : n - 1 + 1 ≡ n = omega arith in
        record {
          at = n - 1;
          first = a;
          second = b;
          within = omega arith;
          fits = omega arith;
          first_at = at_a;
          second_at = ap (λ k. get_or all k b) next ∙ at_b;
          same = same;
          first_index = e.0;
          second_index = e.1;
          differ = λ level. differ (e.0 ∙ (level ∙ sym e.1));
        }

-- neighbours that are none
pub neighbours_no_more : (all : List Occurrence) (n : ℕ) (a b : Occurrence) (r : Option (ℕ × ℕ)) → 1 ≤ n → n < length all →
    get_or all (n - 1) a ≡ a → get_or all n b ≡ b → (a.tag ≡ b.tag → a.index ≢ b.index → ⊥) →
    IsLeast (Neighbours all n) r → IsLeast (Neighbours all (n + 1)) r
neighbours_no_more all n a b r some lt at_a at_b none h =
    least_before (Neighbours all n) (Neighbours all (n + 1)) (fewer all n) ahead r h
  where
    ahead : (i j : ℕ) → Neighbours all (n + 1) i j → (k : ℕ) × (l : ℕ) × Neighbours all n k l × IsUpTo (k, l) (i, j)
    ahead i j u = by_order (cases_lt (u.at + 1) n)
      where
        by_order : (u.at + 1 < n) ⊎ (n ≤ u.at + 1) → (k : ℕ) × (l : ℕ) × Neighbours all n k l × IsUpTo (k, l) (i, j)
        by_order (inl within) = (i, j, among all (n + 1) n i j u within, inr (refl, omega arith))
        by_order (inr last) =
            let these = last_two all n a b some lt at_a at_b i j u last in
            absurd
            (none (ap (λ o. o.tag) these.0 ∙ (u.same ∙ ap (λ o. o.tag) (sym these.1)))
            (λ level. u.differ (sym u.first_index ∙ (ap (λ o. o.index) (sym these.0) ∙ (level ∙ (ap (λ o. o.index) these.1 ∙ u.second_index))))))

-- what is at an index in the leaves of components
Contains-map : (n : ℕ) (ts : List Tag) (t : Tag) (k : ℕ) → Contains (occurrences_at n ts) (record { tag = t; index = k }) → (n ≡ k) × Contains ts t
Contains-map n [] t k h = absurd (let lt = h.1 in omega arith)
Contains-map n (u ∷ ts) t k (zero, lt, is) = (ap (λ o. o.index) is, (0, omega arith, ap (λ o. o.tag) is))
Contains-map n (u ∷ ts) t k (suc x, lt, is) =
    let rest = Contains-map n ts t k (x, omega arith, is) in
    (rest.0, (suc rest.1.0, let within = rest.1.1 in omega arith, rest.1.2))

Contains-mapped : (n : ℕ) (ts : List Tag) (t : Tag) → Contains ts t → Contains (occurrences_at n ts) (record { tag = t; index = n })
Contains-mapped n [] t h = absurd (let lt = h.1 in omega arith)
Contains-mapped n (u ∷ ts) t (zero, lt, is) = (0, omega arith, λ i. record { tag = is i; index = n })
Contains-mapped n (u ∷ ts) t (suc x, lt, is) =
    let rest = Contains-mapped n ts t (x, omega arith, is) in
    (suc rest.0, let within = rest.1 in omega arith, rest.2)

-- an occurrence is a leaf of the component at its index
from_occurrence : (n : ℕ) (cs : List Component) (t : Tag) (k : ℕ) → Contains (occurrences n cs) (record { tag = t; index = k }) →
    (m : ℕ) × (c : Component) × (k ≡ n + m) × (slice_get cs m ≡ Some c) × Contains (leaves c.tree) t
from_occurrence n [] t k h = absurd (let lt = h.1 in omega arith)
from_occurrence n (c ∷ cs) t k h =
    elim (Contains-append_cases (occurrences_at n (leaves c.tree)) (occurrences (n + 1) cs) (record { tag = t; index = k }) h) [
      | inl here ↦ let at = Contains-map n (leaves c.tree) t k here in (0, c, let e = at.0 in omega arith, refl, at.1)
      | inr later ↦ let rest = from_occurrence (n + 1) cs t k later in (suc rest.0, rest.1, let e = rest.2 in omega arith, rest.3, rest.4)
    ]

-- and each leaf of a component occurs at its index
to_occurrence : (n : ℕ) (cs : List Component) (t : Tag) (m : ℕ) (c : Component) → slice_get cs m ≡ Some c → Contains (leaves c.tree) t →
    Contains (occurrences n cs) (record { tag = t; index = n + m })
to_occurrence n [] t m c at has = cc
to_occurrence n (d ∷ cs) t zero c at has =
    let same : d ≡ c = same_Some d c at in
    let index : n ≡ n + 0 = omega arith in
    Contains-append_left (occurrences_at n (leaves d.tree)) (occurrences (n + 1) cs) (record { tag = t; index = n + 0 })
    (subst (λ k. Contains (occurrences_at n (leaves d.tree)) (record { tag = t; index = k })) index
    (Contains-mapped n (leaves d.tree) t (subst (λ x. Contains (leaves x.tree) t) (sym same) has)))
to_occurrence n (d ∷ cs) t (suc m) c at has =
    let index : n + 1 + m ≡ n + suc m = omega arith in
    Contains-append_right (occurrences_at n (leaves d.tree)) (occurrences (n + 1) cs) (record { tag = t; index = n + suc m })
    (subst (λ k. Contains (occurrences (n + 1) cs) (record { tag = t; index = k })) index (to_occurrence (n + 1) cs t m c at has))

-- components clash in a SET where a tag occurs twice, or one of them can begin with any tag
clash_which : (cs : List Component) (all : List Occurrence) → IsPermutation (occurrences 0 cs) all → (i j : ℕ) → IsSetClash cs i j → HasOpen cs i j ⊎ OccursTwice all i j
clash_which cs all moved i j h =
    by_tags (open_or_leaf h.first.tree h.shared.tag h.shared.of_first) (open_or_leaf h.second.tree h.shared.tag h.shared.of_second)
  where
    any : (is_open h.first.tree || is_open h.second.tree) ≡ true → HasOpen cs i j
    any open_one = record { first = h.first; second = h.second; first_at = h.first_at; second_at = h.second_at; before = h.before; open_one = open_one }

    at : (k : ℕ) (c : Component) → slice_get cs k ≡ Some c → Contains (leaves c.tree) h.shared.tag → Contains all (record { tag = h.shared.tag; index = k })
    at k c is has = Contains-permutation (occurrences 0 cs) all _ moved (subst (λ n. Contains (occurrences 0 cs) (record { tag = h.shared.tag; index = n })) (omega arith) (to_occurrence 0 cs h.shared.tag k c is has))

    by_tags : IsTrue (is_open h.first.tree) ⊎ Contains (leaves h.first.tree) h.shared.tag →
        IsTrue (is_open h.second.tree) ⊎ Contains (leaves h.second.tree) h.shared.tag →
        HasOpen cs i j ⊎ OccursTwice all i j
    by_tags (inl e) f = inl (any (or_left (is_open h.first.tree) (is_open h.second.tree) e))
    by_tags (inr e) (inl f) = inl (any (or_right (is_open h.first.tree) (is_open h.second.tree) f))
    by_tags (inr e) (inr f) =
        inr (record { tag = h.shared.tag; before = h.before; at_first = at i h.first h.first_at e; at_second = at j h.second h.second_at f })

clash_from_open : (cs : List Component) (i j : ℕ) → HasOpen cs i j → IsSetClash cs i j
clash_from_open cs i j h = record {
  first = h.first;
  second = h.second;
  first_at = h.first_at;
  second_at = h.second_at;
  before = h.before;
  shared = ShareTag-from_test h.first.tree h.second.tree (or_left (is_open h.first.tree || is_open h.second.tree) (have_common_tag (leaves h.first.tree) (leaves h.second.tree)) h.open_one);
}

clash_from_twice : (cs : List Component) (all : List Occurrence) → IsPermutation (occurrences 0 cs) all → (i j : ℕ) → OccursTwice all i j → IsSetClash cs i j
clash_from_twice cs all moved i j h =
    let back = IsPermutation-sym (occurrences 0 cs) all moved in
    let first = from_occurrence 0 cs h.tag i (Contains-permutation all (occurrences 0 cs) _ back h.at_first) in
    let second = from_occurrence 0 cs h.tag j (Contains-permutation all (occurrences 0 cs) _ back h.at_second) in
    let first_index : first.0 ≡ i = let e = first.2 in omega arith in
    let second_index : second.0 ≡ j = let e = second.2 in omega arith in
    record {
      first = first.1;
      second = second.1;
      first_at = subst (λ k. slice_get cs k ≡ Some first.1) first_index first.3;
      second_at = subst (λ k. slice_get cs k ≡ Some second.1) second_index second.3;
      before = h.before;
      shared = record {
        tag = h.tag;
        of_first = tag-from_open_or_leaf first.1.tree h.tag (inr first.4);
        of_second = tag-from_open_or_leaf second.1.tree h.tag (inr second.4);
      };
    }

-- so the lesser of the two pairs is the first clash
pub set_clash_found : (cs : List Component) (all : List Occurrence) (r s : Option (ℕ × ℕ)) → IsPermutation (occurrences 0 cs) all →
    IsLeast (HasOpen cs) r → IsLeast (OccursTwice all) s → lesser_pair r s ≡ set_clash cs
set_clash_found cs all r s moved h k =
    least_alone (IsSetClash cs) (lesser_pair r s) (set_clash cs)
    (least_of_two (HasOpen cs) (OccursTwice all) (IsSetClash cs) (clash_which cs all moved) (clash_from_open cs) (clash_from_twice cs all moved) r s h k)
    (set_clash-is cs)

-- where no component can begin with any tag, no pair has such a one
pub none_open : (cs : List Component) → position (λ c. is_open c.tree) cs ≡ None → IsLeast (HasOpen cs) None
none_open cs none i j h =
    elim (or_cases (is_open h.first.tree) (is_open h.second.tree) h.open_one) [
      | inl e ↦ false≢true (sym (shut i h.first h.first_at) ∙ e)
      | inr e ↦ false≢true (sym (shut j h.second h.second_at) ∙ e)
    ]
  where
    shut : (k : ℕ) (c : Component) → slice_get cs k ≡ Some c → is_open c.tree ≡ false
    shut k c at =
        let past : length cs ≤ position_or_len (λ (d : Component). is_open d.tree) cs = grind (arith, nat_tests, common_steps) in
        let within = slice_get_within cs k c at in
        subst (λ x. is_open x.tree ≡ false) (get_or_from_slice_get cs k c c at) (fails_before_first (λ d. is_open d.tree) cs k c (omega arith))

-- else the least pair has the first component, and the first that can, or the second
pub first_open : (cs : List Component) (k : ℕ) (d : Component) → position (λ c. is_open c.tree) cs ≡ Some k → max k 1 < length cs → IsLeast (HasOpen cs) (Some (0, max k 1))
first_open cs k d is fits =
    let found = position-Some (λ c. is_open c.tree) cs k d is in
    (by_index k found.1 fits, up_to found.2)
  where
    by_index : (n : ℕ) → is_open (get_or cs n d).tree ≡ true → max n 1 < length cs → HasOpen cs 0 (max n 1)
    by_index zero here lt = record {
      first = get_or cs 0 d;
      second = get_or cs 1 d;
      first_at = slice_get-get_or cs 0 d (omega arith);
      second_at = slice_get-get_or cs 1 d (omega arith);
      before = omega arith;
      open_one = or_left (is_open (get_or cs 0 d).tree) (is_open (get_or cs 1 d).tree) here;
    }
    by_index (suc n) here lt =
        let same : suc n ≡ max (suc n) 1 = omega arith in
        subst (HasOpen cs 0) same
        (record {
          first = get_or cs 0 d;
          second = get_or cs (suc n) d;
          first_at = slice_get-get_or cs 0 d (omega arith);
          second_at = slice_get-get_or cs (suc n) d (omega arith);
          before = omega arith;
          open_one = or_right (is_open (get_or cs 0 d).tree) (is_open (get_or cs (suc n) d).tree) here;
        })

    up_to : ((m : ℕ) → m < k → is_open (get_or cs m d).tree ≡ false) → (i j : ℕ) → HasOpen cs i j → IsUpTo (0, max k 1) (i, j)
    up_to shut (suc i) j h = inl (omega arith)
    up_to shut zero j h = inr (refl, bound (or_cases (is_open h.first.tree) (is_open h.second.tree) h.open_one))
      where
        not_before : (m : ℕ) (c : Component) → slice_get cs m ≡ Some c → is_open c.tree ≡ true → k ≤ m
        not_before m c at open_here = by_order (cases_lt m k)
          where
            by_order : (m < k) ⊎ (k ≤ m) → k ≤ m
            by_order (inr le) = le
            by_order (inl lt) = absurd (false≢true (sym (shut m lt) ∙ (ap (λ x. is_open x.tree) (get_or_from_slice_get cs m c d at) ∙ open_here)))

        bound : (is_open h.first.tree ≡ true) ⊎ (is_open h.second.tree ≡ true) → max k 1 ≤ j
        bound (inl e) = let le = not_before 0 h.first h.first_at e in let lt = h.before in omega arith
        bound (inr e) = let le = not_before j h.second h.second_at e in let lt = h.before in omega arith

-- beyond the last there are no neighbours
pub neighbours_end : (all : List Occurrence) (n : ℕ) (r : Option (ℕ × ℕ)) → length all ≤ n → IsLeast (Neighbours all n) r → IsLeast (Neighbours all (length all)) r
neighbours_end all n r past h =
    least_before (Neighbours all n) (Neighbours all (length all)) (λ i j u. among all n (length all) i j u u.fits)
    (λ i j u. (i, j, among all (length all) n i j u (let fits = u.fits in omega arith), inr (refl, omega arith))) r h

-- the lesser of a pair and none is the pair
lesser_pair-None : (r : Option (ℕ × ℕ)) → lesser_pair r None ≡ r
lesser_pair-None None = refl
lesser_pair-None (Some p) = refl

-- a step over neighbours
pub neighbours_step : (all : List Occurrence) (n : ℕ) (a b : Occurrence) (r : Option (ℕ × ℕ)) → 1 ≤ n → n < length all →
    get_or all (n - 1) a ≡ a → get_or all n b ≡ b → IsLeast (Neighbours all n) r → IsLeast (Neighbours all (n + 1)) (lesser_pair r (pair_of a b))
neighbours_step all n a b r some lt at_a at_b h = by_tests (tag_eq a.tag b.tag) (a.index == b.index) refl refl
  where
    none : ((a.tag ≡ b.tag) → a.index ≢ b.index → ⊥) → IsLeast (Neighbours all (n + 1)) (lesser_pair r None)
    none differ = subst (IsLeast (Neighbours all (n + 1))) (sym (lesser_pair-None r)) (neighbours_no_more all n a b r some lt at_a at_b differ h)

    by_tests : (e l : Bool) → tag_eq a.tag b.tag ≡ e → (a.index == b.index) ≡ l →
        IsLeast (Neighbours all (n + 1)) (lesser_pair r (cond (e && not l) (Some (a.index, b.index)) None))
    by_tests true false same apart =
        neighbours_more all n a b r some lt at_a at_b (tag_eq-true a.tag b.tag same) (λ level. false≢true (sym apart ∙ eq-eqb a.index b.index level)) h
    by_tests true true same level = none (λ _ differ. differ (eqb-true a.index b.index level))
    by_tests false l apart level = none (λ same _. false≢true (sym apart ∙ (ap (λ t. tag_eq t b.tag) same ∙ tag_eq-refl b.tag)))

-- the leaves of fields, one more of a field
pub occurrences_at-more : (n : ℕ) (ts : List Tag) (i : ℕ) (d : Tag) → i < length ts →
    occurrences_at n (take (i + 1) ts) ≡ occurrences_at n (take i ts) ++ record { tag = get_or ts i d; index = n } ∷ []
occurrences_at-more n ts i d lt = ap (occurrences_at n) (take_more ts i d lt) ∙ map-append (λ t. record { tag = t; index = n }) (take i ts) (get_or ts i d ∷ [])

occurrences-append : (n : ℕ) (cs ds : List Component) → occurrences n (cs ++ ds) ≡ occurrences n cs ++ occurrences (n + length cs) ds
occurrences-append n [] ds = ap (λ m. occurrences m ds) (sym (add-zero n))
occurrences-append n (c ∷ cs) ds =
    let index : n + 1 + length cs ≡ n + length (c ∷ cs) = omega arith in
    ap (λ rest. occurrences_at n (leaves c.tree) ++ rest) (occurrences-append (n + 1) cs ds)
    ∙ (sym (append_assoc (occurrences_at n (leaves c.tree)) (occurrences (n + 1) cs) (occurrences (n + 1 + length cs) ds))
    ∙ ap (λ m. (occurrences_at n (leaves c.tree) ++ occurrences (n + 1) cs) ++ occurrences m ds) index)

-- and one more field
pub occurrences-more : (fs : List FlatComponent) (i : ℕ) (d : FlatComponent) → i < length fs →
    occurrences 0 (components_view (take (i + 1) fs))
    ≡ occurrences 0 (components_view (take i fs)) ++ occurrences_at i (leaves (component_view (get_or fs i d)).tree)
occurrences-more fs i d lt =
    let front = components_view (take i fs) in
    let here = component_view (get_or fs i d) in
    let count : 0 + length front ≡ i = simp (length-map, length-take) (omega arith) in
    ap (λ gs. occurrences 0 (components_view gs)) (take_more fs i d lt)
    ∙ (ap (occurrences 0) (map-append component_view (take i fs) (get_or fs i d ∷ []))
    ∙ (occurrences-append 0 front (here ∷ [])
    ∙ (ap (λ m. occurrences 0 front ++ occurrences m (here ∷ [])) count
    ∙ ap (λ rest. occurrences 0 front ++ rest) (append-nil (occurrences_at i (leaves here.tree))))))

-- fewer than two components make no pair
pub one_alone : (cs : List Component) (k : ℕ) (d : Component) → position (λ c. is_open c.tree) cs ≡ Some k → length cs ≤ max k 1 → IsLeast (HasOpen cs) None
one_alone cs k d is few i j h =
    let found = position-Some (λ c. is_open c.tree) cs k d is in
    let within = slice_get_within cs j h.second h.second_at in
    let lt = h.before in
    let bound = found.0 in
    omega arith

-- a leaf is added
pub leaf_added : (old mid new : List Occurrence) (n : ℕ) (ts : List Tag) (i : ℕ) (d : Tag) → mid ≡ old ++ occurrences_at n (take i ts) →
    new ≡ mid ++ record { tag = get_or ts i d; index = n } ∷ [] → i < length ts → new ≡ old ++ occurrences_at n (take (i + 1) ts)
leaf_added old mid new n ts i d before added lt =
    added
    ∙ (ap (λ xs. xs ++ record { tag = get_or ts i d; index = n } ∷ []) before
    ∙ (append_assoc old (occurrences_at n (take i ts)) (record { tag = get_or ts i d; index = n } ∷ [])
    ∙ ap (λ xs. old ++ xs) (sym (occurrences_at-more n ts i d lt))))

-- a field is passed
pub field_passed : (old new : List Occurrence) (fs : List FlatComponent) (i : ℕ) (f : FlatComponent) (ts : List Tag) (k : ℕ) → old ≡ occurrences 0 (components_view (take i fs)) →
    new ≡ old ++ occurrences_at i (take k ts) → length ts ≤ k → ts ≡ leaves (component_view f).tree → f ≡ get_or fs i f → i < length fs →
    new ≡ occurrences 0 (components_view (take (i + 1) fs))
field_passed old new fs i f ts k before added past has at lt =
    added
    ∙ (ap (λ xs. xs ++ occurrences_at i (take k ts)) before
    ∙ (ap (λ us. occurrences 0 (components_view (take i fs)) ++ occurrences_at i us) (take_all k ts past ∙ (has ∙ ap (λ g. leaves (component_view g).tree) at))
    ∙ sym (occurrences-more fs i f lt)))

-- one more neighbour is looked at
pub neighbours_passed : (all : List Occurrence) (n : ℕ) (d e : Occurrence) (r s q : Option (ℕ × ℕ)) → 1 ≤ n → n < length all →
    q ≡ pair_of (get_or all (n - 1) d) (get_or all n e) → s ≡ lesser_pair r q → IsLeast (Neighbours all n) r → IsLeast (Neighbours all (n + 1)) s
neighbours_passed all n d e r s q some lt pair lesser h =
    let a = get_or all (n - 1) d in
    let b = get_or all n e in
    subst (IsLeast (Neighbours all (n + 1))) (sym (lesser ∙ ap (lesser_pair r) pair))
    (neighbours_step all n (get_or all (n - 1) d) (get_or all n e) r some lt (get_or_default all (n - 1) _ d (omega arith)) (get_or_default all n _ e lt) h)
