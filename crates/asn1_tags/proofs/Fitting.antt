-- Tables that fit a list of tags.
use Rattle.std.proofs.Common.{◌≡◌, ◌≢◌, inl, inr, ℕ, zero, suc, ◌+◌, ◌-◌, ◌<◌, Bool, true, false, ◌||◌, eqb, eqb-true, ne_eqb, Some, IfSome, List, [], ◌∷◌, length, get_or, map, refl, sym, ap, ◌∙◌, subst, arith}
use Rattle.std.specs.List.{slice_get, list_any, AllByRecursion, IsDistinct}
use Rattle.std.specs.List.Sorted.{IsStrictlySortedBy}
use Rattle.std.specs.Cmp.{IsTotalOrder, tied_itself}
use Rattle.std.specs.Option.{unwrap_or}
use Rattle.std.specs.Ordering.{is_lt}
use Rattle.std.specs.declared.cmp.Ordering.TheVariants.{Less, Equal}
use Rattle.std.proofs.lemmas.Bool.{cases_eq, false≢true}
use Rattle.std.proofs.lemmas.Cmp.{nat_cmp_total, on_total, then_total}
use Rattle.std.proofs.lemmas.Grind.{common_steps}
use Rattle.std.proofs.lemmas.List.{get_or-map, length-map}
use Rattle.std.proofs.lemmas.List.Folds.{Any-from_list_any}
use Rattle.std.proofs.lemmas.Map.Keys.{Less-from_sorted, IsDistinct-cons, IsDistinct-from_apart, sorted_from_all_adjacent}
use Rattle.std.proofs.lemmas.Map.Steps.{length-le_from_distinct_below}
use Rattle.std.proofs.lemmas.Option.{get_or_from_slice_get, slice_get-get_or, slice_get_within}
use Rattle.asn1_tags.specs.OrderLaws.{tag_total}
use Rattle.asn1_tags.specs.TagTables.{Entry, EntryFits, TableFits, entry_before, entry_cmp}
use Rattle.asn1_tags.specs.declared.tags.Tag.{Tag}

-- the order of entries is total
pub entry_total : IsTotalOrder entry_cmp
entry_total = then_total (on_total (λ e. e.0) tag_total) (on_total (λ e. e.1) nat_cmp_total)

-- the tag of an entry that fits is at its position
pub tag_from_fit : (tags : List Tag) (table : List Entry) (i : ℕ) (d : Entry) → i < length table → EntryFits tags table i →
    slice_get tags (get_or table i d).1 ≡ Some (get_or table i d).0
tag_from_fit tags table i d lt fit = subst (λ o. IfSome o (λ e. slice_get tags e.1 ≡ Some e.0)) (slice_get-get_or table i d lt) fit.has_tag

-- and that it comes after the entry before it
pub less_from_fit : (tags : List Tag) (table : List Entry) (i : ℕ) (d : Entry) → suc i < length table → EntryFits tags table (suc i) →
    entry_cmp (get_or table i d) (get_or table (suc i) d) ≡ Less
less_from_fit tags table i d lt fit =
    let before = slice_get-get_or table i d (omega arith) in
    let here = slice_get-get_or table (suc i) d lt in
    subst (λ o. IfSome o (λ e. entry_cmp (get_or table i d) e ≡ Less)) here
    (subst (λ o. IfSome o (λ b. IfSome (slice_get table (suc i)) (λ e. entry_cmp b e ≡ Less))) before fit.ascends)

-- an entry with its tag at its position fits, if it is the first
pub first_fits : (tags : List Tag) (table : List Entry) (i : ℕ) (d : Entry) → i < length table →
    slice_get tags (get_or table i d).1 ≡ Some (get_or table i d).0 → i ≡ 0 → EntryFits tags table i
first_fits tags table i d lt has e = record {
  has_tag = subst (λ o. IfSome o (λ e. slice_get tags e.1 ≡ Some e.0)) (sym (slice_get-get_or table i d lt)) has;
  ascends = subst (λ j. IfSome (entry_before table j) (λ b. IfSome (slice_get table i) (λ e. entry_cmp b e ≡ Less))) (sym e) tt;
}

-- or if it comes after the entry before it
pub next_fits : (tags : List Tag) (table : List Entry) (i : ℕ) (d : Entry) → suc i < length table →
    slice_get tags (get_or table (suc i) d).1 ≡ Some (get_or table (suc i) d).0 →
    entry_cmp (get_or table i d) (get_or table (suc i) d) ≡ Less → EntryFits tags table (suc i)
next_fits tags table i d lt has less = record {
  has_tag = subst (λ o. IfSome o (λ e. slice_get tags e.1 ≡ Some e.0)) (sym (slice_get-get_or table (suc i) d lt)) has;
  ascends =
      subst (λ o. IfSome o (λ b. IfSome (slice_get table (suc i)) (λ e. entry_cmp b e ≡ Less))) (sym (slice_get-get_or table i d (omega arith)))
      (subst (λ o. IfSome o (λ e. entry_cmp (get_or table i d) e ≡ Less)) (sym (slice_get-get_or table (suc i) d lt)) less);
}

-- the same at the index before
pub less_from_fit_at : (tags : List Tag) (table : List Entry) (i : ℕ) (d : Entry) → 0 < i → i < length table → EntryFits tags table i →
    entry_cmp (get_or table (i - 1) d) (get_or table i d) ≡ Less
less_from_fit_at tags table zero d positive lt fit = absurd (omega arith)
less_from_fit_at tags table (suc i) d positive lt fit =
    let e : i ≡ suc i - 1 = omega arith in
    subst (λ j. entry_cmp (get_or table j d) (get_or table (suc i) d) ≡ Less) e (less_from_fit tags table i d lt fit)

pub next_fits_at : (tags : List Tag) (table : List Entry) (i : ℕ) (d : Entry) → 0 < i → i < length table →
    slice_get tags (get_or table i d).1 ≡ Some (get_or table i d).0 →
    entry_cmp (get_or table (i - 1) d) (get_or table i d) ≡ Less → EntryFits tags table i
next_fits_at tags table zero d positive lt has less = absurd (omega arith)
next_fits_at tags table (suc i) d positive lt has less =
    let e : suc i - 1 ≡ i = omega arith in
    next_fits tags table i d lt has (subst (λ j. entry_cmp (get_or table j d) (get_or table (suc i) d) ≡ Less) e less)

-- one more entry that fits
pub fits_upto : (tags : List Tag) (table : List Entry) (i : ℕ) → ((j : ℕ) → j < i → EntryFits tags table j) → EntryFits tags table i →
    (j : ℕ) → j < i + 1 → EntryFits tags table j
fits_upto tags table i before here j lt =
    elim (cases_eq j i) [
      | inl e ↦ subst (EntryFits tags table) (sym e) here
      | inr ne ↦ before j (omega (arith, ne))
    ]

-- the entries of a table that fits ascend
pub sorted_from_fits : (tags : List Tag) (table : List Entry) (d : Entry) → TableFits tags table → IsStrictlySortedBy entry_cmp table
sorted_from_fits tags table d fits =
    sorted_from_all_adjacent entry_total table d
    (λ i lt. subst (λ j. entry_cmp (get_or table i d) (get_or table j d) ≡ Less) (omega arith) (less_from_fit tags table i d (omega arith) (fits.each_fits (suc i) (omega arith))))

pub sorted_fits : (tags : List Tag) (table : List Entry) → TableFits tags table → IsStrictlySortedBy entry_cmp table
sorted_fits tags [] fits = unfold IsStrictlySortedBy in tt
sorted_fits tags (d ∷ rest) fits = sorted_from_fits tags (d ∷ rest) d fits

less≢equal : Less ≢ Equal
less≢equal e = false≢true (sym (ap is_lt e))

-- two entries of a table that fits have two positions
positions_differ : (tags : List Tag) (table : List Entry) → TableFits tags table → (i j : ℕ) (d : Entry) → i < j → j < length table →
    (get_or table i d).1 ≢ (get_or table j d).1
positions_differ tags table fits i j d lt within same =
    let first = get_or table i d in
    let second = get_or table j d in
    let one = tag_from_fit tags table i d (omega arith) (fits.each_fits i (omega arith)) in
    let other = tag_from_fit tags table j d within (fits.each_fits j within) in
    let some_tag : Some first.0 ≡ Some second.0 = sym one ∙ (ap (slice_get tags) same ∙ other) in
    let tag : first.0 ≡ second.0 = ap (λ o. unwrap_or o first.0) some_tag in
    let entry : first ≡ second = λ k. (tag k, same k) in
    let less = Less-from_sorted entry_cmp table i j d (sorted_from_fits tags table d fits) lt within in
    less≢equal (sym less ∙ (ap (entry_cmp first) (sym entry) ∙ tied_itself entry_total first))

passes_nowhere : (k : ℕ) (ps : List ℕ) → list_any (eqb k) ps ≡ false → AllByRecursion (λ p. eqb k p ≡ false) ps
passes_nowhere k [] none = tt
passes_nowhere k (p ∷ ps) none = (grind (arith, common_steps), passes_nowhere k ps (grind (arith, common_steps)))

positions_of : List Entry → List ℕ
positions_of table = map (λ e. e.1) table

position_at : (table : List Entry) (i e : ℕ) (d : Entry) → i < length table → get_or (positions_of table) i e ≡ (get_or table i d).1
unfolding positions_of
position_at table i e d lt = get_or-map (λ e. e.1) table i d e lt

as_many_positions : (table : List Entry) → length (positions_of table) ≡ length table
unfolding positions_of
as_many_positions table = length-map table (λ e. e.1)

positions_apart : (tags : List Tag) (table : List Entry) → TableFits tags table → Entry → IsDistinct eqb (positions_of table)
positions_apart tags table fits d =
    let as_many = as_many_positions table in
    IsDistinct-from_apart eqb (positions_of table)
    (λ i j e lt inside.
    let first = position_at table i e d (omega (arith, as_many)) in
    let second = position_at table j e d (omega (arith, as_many)) in
    let differ = positions_differ tags table fits i j d lt (omega (arith, as_many)) in
    ne_eqb (get_or (positions_of table) i e) (get_or (positions_of table) j e) (λ same. differ (sym first ∙ (same ∙ second))))

-- a number that is the position of an entry
entry_of : (table : List Entry) (q : ℕ) (d : Entry) → list_any (eqb q) (positions_of table) ≡ true →
    (i : ℕ) × (i < length table) × ((get_or table i d).1 ≡ q)
entry_of table q d some =
    let found = Any-from_list_any (eqb q) (positions_of table) some in
    let inside : found.0 < length table = omega (arith, as_many_positions table, found.2) in
    (found.0, inside, sym (eqb-true q found.1 found.4 ∙ (sym found.3 ∙ position_at table found.0 found.1 d inside)))

position_within : (tags : List Tag) (table : List Entry) → TableFits tags table → (q : ℕ) (d : Entry) →
    list_any (eqb q) (positions_of table) ≡ true → q < length tags
position_within tags table fits q d some =
    let entry = entry_of table q d some in
    let placed = tag_from_fit tags table entry.0 d entry.1 (fits.each_fits entry.0 entry.1) in
    subst (λ n. n < length tags) entry.2 (slice_get_within tags (get_or table entry.0 d).1 (get_or table entry.0 d).0 placed)

-- so each index of the list is the position of an entry
pub entry_of_index : (tags : List Tag) (table : List Entry) → TableFits tags table → (index : ℕ) (d : Entry) → index < length tags →
    (i : ℕ) × (i < length table) × ((get_or table i d).1 ≡ index)
entry_of_index tags table fits index d within = by_test (list_any (eqb index) (positions_of table)) refl
  where
    below : list_any (eqb index) (positions_of table) ≡ false → (q : ℕ) → (b : Bool) → eqb q index ≡ b →
        (b || list_any (eqb q) (positions_of table)) ≡ true → q < length tags
    below none q true same some = subst (λ n. n < length tags) (sym (eqb-true q index same)) within
    below none q false other some = position_within tags table fits q d some

    by_test : (b : Bool) → list_any (eqb index) (positions_of table) ≡ b → (i : ℕ) × (i < length table) × ((get_or table i d).1 ≡ index)
    by_test true some = entry_of table index d some
    by_test false none =
        let distinct = IsDistinct-cons eqb index (positions_of table) (passes_nowhere index (positions_of table) none) (positions_apart tags table fits d) in
        let few = length-le_from_distinct_below (index ∷ positions_of table) (length tags) distinct
        (λ q some. below none q (eqb q index) refl some) in
        absurd (omega (arith, few, as_many_positions table, fits.same_length))

-- the tag of an entry that fits is the one at its position
pub tag_at_position : (tags : List Tag) (table : List Entry) → TableFits tags table → (i : ℕ) (d : Entry) (t : Tag) → i < length table →
    get_or tags (get_or table i d).1 t ≡ (get_or table i d).0
tag_at_position tags table fits i d t lt = get_or_from_slice_get tags (get_or table i d).1 (get_or table i d).0 t (tag_from_fit tags table i d lt (fits.each_fits i lt))

-- the tests of an entry
pub ruleset entries = (tag_from_fit, less_from_fit_at, first_fits, next_fits_at)
