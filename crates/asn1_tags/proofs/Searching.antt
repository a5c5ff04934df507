-- The first index of a tag, and halving searches of tables.
use Rattle.std.proofs.Common.{◌≡◌, inl, inr, ℕ, zero, suc, ◌+◌, ◌-◌, ◌/◌, ◌^◌, ◌<◌, ◌≤◌, Bool, true, false, cond, nat_lt, Option, Some, None, MatchOption, List, length, find, position, get_or, option_map, refl, sym, ap, ◌∙◌, subst, arith}
use Rattle.std.specs.Cmp.{tied_itself}
use Rattle.std.specs.List.{position_or_len, slice_get}
use Rattle.std.specs.List.Sorted.{IsStrictlySortedBy}
use Rattle.std.specs.Ordering.{nat_cmp, is_eq, is_gt, ordering_reverse, ordering_then}
use Rattle.std.specs.declared.cmp.Ordering.{Ordering}
use Rattle.std.specs.declared.cmp.Ordering.TheVariants.{Less, Equal, Greater}
use Rattle.std.proofs.lemmas.Bool.{cases_eq, cases_lt, false≢true}
use Rattle.std.proofs.lemmas.Bool.Decides.{nat_tests}
use Rattle.std.proofs.lemmas.Grind.{common_steps}
use Rattle.std.proofs.lemmas.Int.Digits.{length-digits_of_step}
use Rattle.std.proofs.lemmas.List.Folds.{find_at}
use Rattle.std.proofs.lemmas.List.Sums.{fails_before_first, passes_at_first, position_or_len_is}
use Rattle.std.proofs.lemmas.Map.Keys.{Less-from_sorted}
use Rattle.std.proofs.lemmas.Option.{get_or_from_slice_get, slice_get-get_or, slice_get_past, slice_get_within}
use Rattle.asn1_tags.proofs.TagListTests.{tag_eq-true, tag_eq-refl}
use Rattle.asn1_tags.proofs.Fitting.{entry_of_index, sorted_fits, sorted_from_fits, tag_at_position, tag_from_fit}
use Rattle.asn1_tags.specs.OrderLaws.{structure_cmp-Equal, tag_total}
use Rattle.asn1_tags.specs.TagTables.{Entry, TableFits, binary_digits, entry_cmp, first_position}
use Rattle.asn1_tags.specs.Tags.{position_of, smallest, tag_cmp, tag_eq}
use Rattle.asn1_tags.specs.Trees.{leaf, leaves}
use Rattle.asn1_tags.specs.declared.tags.Tag.{Tag}

-- ---- the first index that passes a test

pub position_is : {X : Type 0} (p : X → Bool) (xs : List X) (i : ℕ) (d : X) → i < length xs →
    ((k : ℕ) → k < i → p (get_or xs k d) ≡ false) → p (get_or xs i d) ≡ true → Some i ≡ position p xs
position_is p xs i d lt before here =
    let e : position_or_len p xs ≡ i = position_or_len_is p xs i d (omega arith) before (λ _. here) in
    let test : nat_lt i (length xs) ≡ true = grind (arith, nat_tests, common_steps) in
    sym (ap (λ n. cond (nat_lt n (length xs)) (Some n) None) e ∙ ap (λ b. cond b (Some i) None) test)

pub position_is_none : {X : Type 0} (p : X → Bool) (xs : List X) (d : X) →
    ((k : ℕ) → k < length xs → p (get_or xs k d) ≡ false) → None ≡ position p xs
position_is_none p xs d nowhere =
    let e : position_or_len p xs ≡ length xs = position_or_len_is p xs (length xs) d (omega arith) nowhere (λ lt. absurd (omega arith)) in
    let test : nat_lt (length xs) (length xs) ≡ false = grind (arith, nat_tests, common_steps) in
    sym (ap (λ n. cond (nat_lt n (length xs)) (Some n) None) e ∙ ap (λ b. cond b (Some (length xs)) None) test)

-- the first entry of the tag
pub first_position_is : (t : Tag) (table : List Entry) (i p : ℕ) (d : Entry) →
    ((k : ℕ) → k < i → tag_eq (get_or table k d).0 t ≡ false) → i < length table → get_or table i d ≡ (t, p) →
    Some p ≡ first_position t table
first_position_is t table i p d before lt here =
    let test : Entry → Bool = λ e. tag_eq e.0 t in
    let passes : test (get_or table i d) ≡ true = subst (λ e. tag_eq e.0 t ≡ true) (sym here) (tag_eq-refl t) in
    let e : position_or_len test table ≡ i = position_or_len_is test table i d (omega arith) before (λ _. passes) in
    let found : find test table ≡ Some (t, p) =
    find_at test table ∙ (ap (slice_get table) e ∙ (slice_get-get_or table i d lt ∙ ap Some here)) in
    sym (ap (option_map (λ e. e.1)) found)

pub first_position_is_none : (t : Tag) (table : List Entry) (d : Entry) →
    ((k : ℕ) → k < length table → tag_eq (get_or table k d).0 t ≡ false) → None ≡ first_position t table
first_position_is_none t table d nowhere =
    let test : Entry → Bool = λ e. tag_eq e.0 t in
    let e : position_or_len test table ≡ length table = position_or_len_is test table (length table) d (omega arith) nowhere (λ lt. absurd (omega arith)) in
    let found : find test table ≡ None = find_at test table ∙ (ap (slice_get table) e ∙ slice_get_past table (length table) (omega arith)) in
    sym (ap (option_map (λ e. e.1)) found)

-- ---- the order of tags

pub same_from_Equal : (s t : Tag) → tag_cmp s t ≡ Equal → s ≡ t
same_from_Equal s t e = ap (λ x. smallest (leaves x)) (structure_cmp-Equal (leaf s) (leaf t) e)

pub tag_eq-from_Equal : (s t : Tag) → tag_cmp s t ≡ Equal → tag_eq s t ≡ true
tag_eq-from_Equal s t e = subst (λ x. tag_eq s x ≡ true) (same_from_Equal s t e) (tag_eq-refl s)

pub not_tag_eq : (s t : Tag) → is_eq (tag_cmp s t) ≡ false → tag_eq s t ≡ false
not_tag_eq s t ne = by_test (tag_eq s t) refl
  where
    by_test : (b : Bool) → tag_eq s t ≡ b → tag_eq s t ≡ false
    by_test false e = e
    by_test true e =
        let same : s ≡ t = tag_eq-true s t e in
        absurd (false≢true (sym ne ∙ ap is_eq (subst (λ x. tag_cmp s x ≡ Equal) same (tied_itself tag_total s))))

-- an earlier entry has a tag that is no greater
not_after : (o p : Ordering) → ordering_then o p ≡ Less → is_gt o ≡ false
not_after Less p e = refl
not_after Equal p e = refl
not_after Greater p e = absurd (false≢true (ap is_gt (sym e)))

-- a tag up to one that is less is less
pub less_upto : (r s t : Tag) → is_gt (tag_cmp r s) ≡ false → tag_cmp s t ≡ Less → tag_cmp r t ≡ Less
less_upto r s t h less = by_order (tag_cmp r s) refl h
  where
    by_order : (o : Ordering) → tag_cmp r s ≡ o → is_gt o ≡ false → tag_cmp r t ≡ Less
    by_order Less e off = tag_total.trans r s t e less
    by_order Equal e off = tag_total.congr r s t e ∙ less
    by_order Greater e off = absurd (false≢true (sym off))

-- and one from a tag on that is greater is greater
pub greater_from : (r s t : Tag) → is_gt (tag_cmp r s) ≡ false → tag_cmp r t ≡ Greater → tag_cmp s t ≡ Greater
greater_from r s t h greater = by_order (tag_cmp r s) refl h
  where
    by_order : (o : Ordering) → tag_cmp r s ≡ o → is_gt o ≡ false → tag_cmp s t ≡ Greater
    by_order Less e off =
        let below : tag_cmp t r ≡ Less = tag_total.antisymm t r ∙ ap ordering_reverse greater in
        tag_total.antisymm s t ∙ ap ordering_reverse (tag_total.trans t r s below e)
    by_order Equal e off = sym (tag_total.congr r s t e) ∙ greater
    by_order Greater e off = absurd (false≢true (sym off))

tags_ascend : (table : List Entry) (i j : ℕ) (d : Entry) → IsStrictlySortedBy entry_cmp table → i ≤ j → j < length table →
    is_gt (tag_cmp (get_or table i d).0 (get_or table j d).0) ≡ false
tags_ascend table i j d sorted le within =
    elim (cases_eq i j) [
      | inl e ↦ subst (λ k. is_gt (tag_cmp (get_or table i d).0 (get_or table k d).0) ≡ false) e (ap is_gt (tied_itself tag_total (get_or table i d).0))
      | inr ne ↦ not_after
          (tag_cmp (get_or table i d).0 (get_or table j d).0)
          (nat_cmp (get_or table i d).1 (get_or table j d).1)
          (Less-from_sorted entry_cmp table i j d sorted (omega (arith, ne)) within)
    ]

-- ---- the number of binary digits

digits_upto : (f m n : ℕ) → m ≤ f → m ≤ n → binary_digits m ≤ binary_digits n
digits_upto f zero n below le = omega arith
digits_upto zero (suc m) n below le = absurd (omega arith)
digits_upto (suc f) (suc m) n below le =
    let lesser = length-digits_of_step 2 (suc m) (omega arith) (omega arith) in
    let greater = length-digits_of_step 2 n (omega arith) (omega arith) in
    let half : suc m / 2 ≤ n / 2 = omega arith in
    let less : suc m / 2 ≤ f = omega arith in
    omega (arith, lesser, greater, digits_upto f (suc m / 2) (n / 2) less half)

-- more than half is gone with one digit
pub digits_halve : (m n : ℕ) → 0 < n → m ≤ n / 2 → binary_digits m + 1 ≤ binary_digits n
digits_halve m n positive le =
    let step = length-digits_of_step 2 n (omega arith) positive in
    omega (arith, step, digits_upto m m (n / 2) (omega arith) le)

pub digits_within : (n : ℕ) → binary_digits n ≤ n
digits_within n = upto n n (omega arith)
  where
    upto : (f n : ℕ) → n ≤ f → binary_digits n ≤ n
    upto f zero le = omega arith
    upto zero (suc n) le = absurd (omega arith)
    upto (suc f) (suc n) le =
        let step = length-digits_of_step 2 (suc n) (omega arith) (omega arith) in
        let less : suc n / 2 ≤ f = omega arith in
        omega (arith, step, upto f (suc n / 2) less)

-- ---- a search that halves

get_or_any : {X : Type 0} (xs : List X) (i : ℕ) (d e : X) → i < length xs → get_or xs i d ≡ get_or xs i e
get_or_any xs i d e lt = get_or_from_slice_get xs i (get_or xs i e) d (slice_get-get_or xs i e lt)

-- The state of a search for the tag when the entries from start to end are left, after this many comparisons.
pub record Searched (t : Tag) (table : List Entry) (start end : ℕ) (found : Option ℕ) (count : ℕ) : Type 0 where
  pub ordered : start ≤ end
  pub within : end ≤ length table
  pub below : (k : ℕ) (d : Entry) → k < start → tag_cmp (get_or table k d).0 t ≡ Less
  pub above :
      MatchOption
      found
      ((k : ℕ) (d : Entry) → end ≤ k → k < length table → tag_cmp (get_or table k d).0 t ≡ Greater)
      (λ p. (end < length table) × ((d : Entry) → get_or table end d ≡ (t, p)))
  pub few : count + binary_digits (end - start) ≤ binary_digits (length table)
  pub begun : count ≡ 0 → (start ≡ 0) × (end ≡ length table)
  pub room : length table < 2 ^ 64

-- the entry in the middle has a lesser tag
pub search_less : (t : Tag) (table : List Entry) (start end : ℕ) (found : Option ℕ) (count : ℕ) (e : Entry) → IsStrictlySortedBy entry_cmp table →
    Searched t table start end found count → start < end →
    tag_cmp (get_or table (start + (end - start) / 2) e).0 t ≡ Less →
    Searched t table (start + (end - start) / 2 + 1) end found (count + 1)
search_less t table start end found count e sorted so_far left less = record {
  ordered = omega arith;
  within = so_far.within;
  below = λ k d lt.
      let middle = start + (end - start) / 2 in
      let inside : middle < length table = omega (arith, so_far.within) in
      less_upto (get_or table k d).0 (get_or table middle d).0 t (tags_ascend table k middle d sorted (omega arith) inside)
      (subst (λ x. tag_cmp x.0 t ≡ Less) (get_or_any table middle e d inside) less);
  above = so_far.above;
  few = omega (arith, so_far.few, digits_halve (end - (start + (end - start) / 2 + 1)) (end - start) (omega arith) (omega arith));
  begun = λ z. absurd (omega arith);
  room = so_far.room;
}

-- the entry in the middle has the tag
pub search_equal : (t : Tag) (table : List Entry) (start end : ℕ) (found : Option ℕ) (count : ℕ) (e : Entry) →
    Searched t table start end found count → start < end →
    tag_cmp (get_or table (start + (end - start) / 2) e).0 t ≡ Equal →
    Searched t table start (start + (end - start) / 2) (Some (get_or table (start + (end - start) / 2) e).1) (count + 1)
search_equal t table start end found count e so_far left equal =
    let middle : ℕ = start + (end - start) / 2 in
    let inside : middle < length table = omega (arith, so_far.within) in
    let half : middle - start ≤ (end - start) / 2 = omega arith in
    record {
      ordered = omega arith;
      within = omega arith;
      below = so_far.below;
      above = (
        inside,
        λ d.
            let here = get_or_any table middle d e inside in
            let tag = same_from_Equal (get_or table middle e).0 t equal in
            here ∙ (λ i. (tag i, (get_or table middle e).1)),
      );
      few = omega (arith, so_far.few, digits_halve (middle - start) (end - start) (omega arith) half);
      begun = λ z. absurd (omega arith);
      room = so_far.room;
    }

-- the entry in the middle has a greater tag
pub search_greater : (t : Tag) (table : List Entry) (start end : ℕ) (found : Option ℕ) (count : ℕ) (e : Entry) → IsStrictlySortedBy entry_cmp table →
    Searched t table start end found count → start < end →
    tag_cmp (get_or table (start + (end - start) / 2) e).0 t ≡ Greater →
    Searched t table start (start + (end - start) / 2) found (count + 1)
search_greater t table start end found count e sorted so_far left greater =
    let middle : ℕ = start + (end - start) / 2 in
    let inside : middle < length table = omega (arith, so_far.within) in
    let half : middle - start ≤ (end - start) / 2 = omega arith in
    record {
      ordered = omega arith;
      within = omega arith;
      below = so_far.below;
      above = none_or_some middle inside (omega arith) greater found so_far.above;
      few = omega (arith, so_far.few, digits_halve (middle - start) (end - start) (omega arith) half);
      begun = λ z. absurd (omega arith);
      room = so_far.room;
    }
  where
    none_or_some : (m : ℕ) → m < length table → m < end → tag_cmp (get_or table m e).0 t ≡ Greater → (o : Option ℕ) →
        MatchOption o ((k : ℕ) (d : Entry) → end ≤ k → k < length table → tag_cmp (get_or table k d).0 t ≡ Greater)
        (λ p. (end < length table) × ((d : Entry) → get_or table end d ≡ (t, p))) →
        MatchOption o ((k : ℕ) (d : Entry) → m ≤ k → k < length table → tag_cmp (get_or table k d).0 t ≡ Greater)
        (λ p. (m < length table) × ((d : Entry) → get_or table m d ≡ (t, p)))
    none_or_some m inside lt here None above =
        λ k d past last.
        greater_from (get_or table m d).0 (get_or table k d).0 t (tags_ascend table m k d sorted past last)
        (subst (λ x. tag_cmp x.0 t ≡ Greater) (get_or_any table m e d inside) here)
    none_or_some m inside lt here (Some p) above =
        let later = greater_from (get_or table m e).0 (get_or table end e).0 t (tags_ascend table m end e sorted (omega arith) above.0) here in
        let same : tag_cmp t t ≡ Greater = subst (λ x. tag_cmp x.0 t ≡ Greater) (above.1 e) later in
        absurd (false≢true (ap is_gt (sym (tied_itself tag_total t) ∙ same)))

-- nothing is left
pub search_ends : (t : Tag) (table : List Entry) (start end : ℕ) (found : Option ℕ) (count : ℕ) → Searched t table start end found count → end ≤ start →
    (d : Entry) → found ≡ first_position t table
search_ends t table start end found count so_far done d = none_or_some found so_far.above
  where
    less : (k : ℕ) → k < end → tag_eq (get_or table k d).0 t ≡ false
    less k lt = not_tag_eq (get_or table k d).0 t (ap is_eq (so_far.below k d (omega (arith, so_far.ordered))))

    none_or_some : (o : Option ℕ) →
        MatchOption o ((k : ℕ) (d : Entry) → end ≤ k → k < length table → tag_cmp (get_or table k d).0 t ≡ Greater)
        (λ p. (end < length table) × ((d : Entry) → get_or table end d ≡ (t, p))) → o ≡ first_position t table
    none_or_some None above = first_position_is_none t table d
        (λ k last. elim (cases_lt k end) [
          | inl lt ↦ less k lt
          | inr past ↦ not_tag_eq (get_or table k d).0 t (ap is_eq (above k d past last))
        ])
    none_or_some (Some p) above = first_position_is t table end p d less above.0 (above.1 d)

-- the comparison that is next is counted by a number that fits
pub room_for_one : (t : Tag) (table : List Entry) (start end : ℕ) (found : Option ℕ) (count : ℕ) →
    Searched t table start end found count → start < end → count + 1 < 2 ^ 64
room_for_one t table start end found count so_far left =
    let digit = digits_halve 0 (end - start) (omega arith) (omega arith) in
    omega (arith, so_far.few, so_far.room, digit, digits_within (length table))

-- ---- what the first entry says of the list

-- an index of the tag is the position of an entry of the tag
entry_of_tag : (tags : List Tag) (table : List Entry) (t : Tag) → TableFits tags table → (index : ℕ) (d : Entry) → index < length tags →
    tag_eq (get_or tags index t) t ≡ true → (i : ℕ) × (i < length table) × ((get_or table i d).1 ≡ index) × ((get_or table i d).0 ≡ t)
entry_of_tag tags table t fits index d within here =
    let entry = entry_of_index tags table fits index d within in
    let read = tag_at_position tags table fits entry.0 d t entry.1 in
    let tag : (get_or table entry.0 d).0 ≡ get_or tags index t = sym read ∙ ap (λ p. get_or tags p t) entry.2 in
    (entry.0, entry.1, entry.2, tag ∙ tag_eq-true (get_or tags index t) t here)

-- no index before the position in the first entry of the tag has the tag
none_earlier : (tags : List Tag) (table : List Entry) (t : Tag) → TableFits tags table → (first : ℕ) (d : Entry) → first < length table →
    (get_or table first d).0 ≡ t → ((k : ℕ) → k < first → tag_eq (get_or table k d).0 t ≡ false) →
    (index : ℕ) → index < (get_or table first d).1 → (get_or table first d).1 < length tags → tag_eq (get_or tags index t) t ≡ false
none_earlier tags table t fits first d inside here before index earlier within = by_test (tag_eq (get_or tags index t) t) refl
  where
    by_test : (b : Bool) → tag_eq (get_or tags index t) t ≡ b → tag_eq (get_or tags index t) t ≡ false
    by_test false e = e
    by_test true e =
        let entry = entry_of_tag tags table t fits index d (omega arith) e in
        let passes : tag_eq (get_or table entry.0 d).0 t ≡ true = subst (λ s. tag_eq s t ≡ true) (sym entry.3) (tag_eq-refl t) in
        elim (cases_lt entry.0 first) [
          | inl lt ↦ absurd (false≢true (sym (before entry.0 lt) ∙ passes))
          | inr ge ↦ elim (cases_eq first entry.0) [
            | inl same ↦
                let e : (get_or table first d).1 ≡ index = subst (λ i. (get_or table i d).1 ≡ index) (sym same) entry.2 in
                absurd (omega (arith, e))
            | inr differ ↦
                let less = Less-from_sorted entry_cmp table first entry.0 d (sorted_from_fits tags table d fits) (omega (arith, differ)) entry.1 in
                let level : tag_cmp (get_or table first d).0 (get_or table entry.0 d).0 ≡ Equal =
                subst (λ s. tag_cmp (get_or table first d).0 s ≡ Equal) (here ∙ sym entry.3) (tied_itself tag_total (get_or table first d).0) in
                let after : nat_cmp (get_or table first d).1 (get_or table entry.0 d).1 ≡ Less =
                ap (λ o. ordering_then o (nat_cmp (get_or table first d).1 (get_or table entry.0 d).1)) (sym level) ∙ less in
                let lt : (get_or table first d).1 < (get_or table entry.0 d).1 = grind (arith, nat_tests, common_steps) in
                absurd (omega (arith, lt, entry.2))
          ]
        ]

-- In a table that fits, the position in the first entry of the tag is the first index of the tag.
pub position_from_fits : (tags : List Tag) (table : List Entry) (t : Tag) → TableFits tags table → first_position t table ≡ position_of t tags
position_from_fits tags table t fits = elim (cases_lt (position_or_len (λ e. tag_eq e.0 t) table) (length table)) [
  | inl within ↦ some within
  | inr past ↦ none past
]
  where
    some : position_or_len (λ e. tag_eq e.0 t) table < length table → first_position t table ≡ position_of t tags
    some within =
        let first = position_or_len (λ e. tag_eq e.0 t) table in
        let entry = get_or table first (t, 0) in
        let passes = passes_at_first (λ e. tag_eq e.0 t) table (t, 0) within in
        let here : entry.0 ≡ t = tag_eq-true entry.0 t passes in
        let before : (k : ℕ) → k < first → tag_eq (get_or table k (t, 0)).0 t ≡ false = λ k lt. fails_before_first (λ e. tag_eq e.0 t) table k (t, 0) lt in
        let index : ℕ = entry.1 in
        let placed = tag_from_fit tags table first (t, 0) within (fits.each_fits first within) in
        let inside : index < length tags = slice_get_within tags index entry.0 placed in
        let read : get_or tags index t ≡ t = tag_at_position tags table fits first (t, 0) t within ∙ here in
        let at_index : tag_eq (get_or tags index t) t ≡ true = subst (λ s. tag_eq s t ≡ true) (sym read) (tag_eq-refl t) in
        sym (first_position_is t table first index (t, 0) before within (λ i. (here i, index)))
        ∙ position_is (λ s. tag_eq s t) tags index t inside (λ k lt. none_earlier tags table t fits first (t, 0) within here before k lt inside) at_index

    none : length table ≤ position_or_len (λ e. tag_eq e.0 t) table → first_position t table ≡ position_of t tags
    none past =
        let nowhere : (k : ℕ) → k < length table → tag_eq (get_or table k (t, 0)).0 t ≡ false =
        λ k lt. fails_before_first (λ e. tag_eq e.0 t) table k (t, 0) (omega arith) in
        sym (first_position_is_none t table (t, 0) nowhere)
        ∙ position_is_none (λ s. tag_eq s t) tags t (λ k lt. absent nowhere k lt (tag_eq (get_or tags k t) t) refl)
      where
        absent : ((k : ℕ) → k < length table → tag_eq (get_or table k (t, 0)).0 t ≡ false) → (k : ℕ) → k < length tags →
            (b : Bool) → tag_eq (get_or tags k t) t ≡ b → tag_eq (get_or tags k t) t ≡ false
        absent nowhere k lt false e = e
        absent nowhere k lt true e =
            let entry = entry_of_tag tags table t fits k (t, 0) lt e in
            let passes : tag_eq (get_or table entry.0 (t, 0)).0 t ≡ true = subst (λ s. tag_eq s t ≡ true) (sym entry.3) (tag_eq-refl t) in
            absurd (false≢true (sym (nowhere entry.0 entry.1) ∙ passes))

-- at most all tags are compared
pub few_from_fits : (tags : List Tag) (table : List Entry) (count : ℕ) → TableFits tags table → count ≤ binary_digits (length table) →
    count ≤ length tags
few_from_fits tags table count fits few = omega (arith, few, digits_within (length table), fits.same_length)

-- the result for the list of a search of a table that fits
pub ruleset searches = (sorted_fits, position_from_fits, few_from_fits)
