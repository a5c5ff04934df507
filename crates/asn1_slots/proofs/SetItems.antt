-- The records of a SET, each with the index of its part, where the marks among them are those of the components.
use Rattle.std.proofs.Common.{◌≡◌, ℕ, ◌+◌, false, cond, List, [], ◌∷◌, refl, ap, sym, ◌∙◌, arith}
use Rattle.std.specs.Prelude.{◌==◌, if◌then◌else◌}
use Rattle.std.specs.List.{All}
use Rattle.std.proofs.lemmas.List.Elements.{All-cons, All-head, All-nil, All-tail}
use Rattle.asn1_components.specs.ComponentTypes.{ComponentType}
use Rattle.asn1_laws.proofs.SetRecords.{IsAll, Item, items_at, records}
use Rattle.asn1_model.specs.Records.{Record, is_presence_mark, open_type, presence_mark, scalar, scope, unmarked}

-- the items without the marks
abbrev pub unmarked_items : List Item → List Item
unmarked_items [] = []
unmarked_items (i ∷ items) = if is_presence_mark i.1 then unmarked_items items else i ∷ unmarked_items items

pub unmarked-records : (items : List Item) → records (unmarked_items items) ≡ unmarked (records items)
unmarked-records [] = refl
unmarked-records ((k, scalar t c n x) ∷ items) = ap (λ l. scalar t c n x ∷ l) (unmarked-records items)
unmarked-records ((k, scope h inner) ∷ items) = ap (λ l. scope h inner ∷ l) (unmarked-records items)
unmarked-records ((k, open_type n bytes) ∷ items) = ap (λ l. open_type n bytes ∷ l) (unmarked-records items)
unmarked-records ((k, presence_mark m) ∷ items) = unmarked-records items

pub unmarked-all : (P : Item → Type 0) (items : List Item) → All P items → All P (unmarked_items items)
unmarked-all P [] all = all
unmarked-all P ((k, scalar t c n x) ∷ items) all = All-cons P (k, scalar t c n x) (unmarked_items items) (All-head P (k, scalar t c n x) items all) (unmarked-all P items (All-tail P (k, scalar t c n x) items all))
unmarked-all P ((k, scope h inner) ∷ items) all = All-cons P (k, scope h inner) (unmarked_items items) (All-head P (k, scope h inner) items all) (unmarked-all P items (All-tail P (k, scope h inner) items all))
unmarked-all P ((k, open_type n bytes) ∷ items) all = All-cons P (k, open_type n bytes) (unmarked_items items) (All-head P (k, open_type n bytes) items all) (unmarked-all P items (All-tail P (k, open_type n bytes) items all))
unmarked-all P ((k, presence_mark m) ∷ items) all = unmarked-all P items (All-tail P (k, presence_mark m) items all)

pub unmarked-counts : (k : ℕ) (items : List Item) → items_at k (unmarked_items items) ≡ items_at k items
unmarked-counts k [] = refl
unmarked-counts k ((j, scalar t c n x) ∷ items) = ap (λ m. cond (j == k) 1 0 + m) (unmarked-counts k items)
unmarked-counts k ((j, scope h inner) ∷ items) = ap (λ m. cond (j == k) 1 0 + m) (unmarked-counts k items)
unmarked-counts k ((j, open_type n bytes) ∷ items) = ap (λ m. cond (j == k) 1 0 + m) (unmarked-counts k items)
unmarked-counts k ((j, presence_mark m) ∷ items) = omega (arith, unmarked-counts k items)

-- The records, each with the index of the next of the items; marks have any.
abbrev pub woven : List Record → List Item → List Item
woven [] items = []
woven (r ∷ rs) [] = (0, r) ∷ woven rs []
woven (r ∷ rs) (i ∷ items) = if is_presence_mark r then (0, r) ∷ woven rs (i ∷ items) else (i.0, r) ∷ woven rs items

pub woven-records : (rs : List Record) (items : List Item) → records (woven rs items) ≡ rs
woven-records [] items = refl
woven-records (r ∷ rs) [] = ap (λ l. r ∷ l) (woven-records rs [])
woven-records (scalar t c n x ∷ rs) (i ∷ items) = ap (λ l. scalar t c n x ∷ l) (woven-records rs items)
woven-records (scope h inner ∷ rs) (i ∷ items) = ap (λ l. scope h inner ∷ l) (woven-records rs items)
woven-records (open_type n bytes ∷ rs) (i ∷ items) = ap (λ l. open_type n bytes ∷ l) (woven-records rs items)
woven-records (presence_mark m ∷ rs) (i ∷ items) = ap (λ l. presence_mark m ∷ l) (woven-records rs (i ∷ items))

-- one more of the item's index, where the record is that of the item and no mark
one_counts : (k j : ℕ) (r own : Record) (n m : ℕ) → is_presence_mark r ≡ false → r ≡ own → n ≡ m →
    cond (if is_presence_mark r then false else (j == k)) 1 0 + n ≡ cond (if is_presence_mark own then false else (j == k)) 1 0 + m
one_counts k j r own n m no_mark same equal =
    ap (λ x. cond (if is_presence_mark x then false else (j == k)) 1 0 + n) same
    ∙ ap (λ x. cond (if is_presence_mark own then false else (j == k)) 1 0 + x) equal

pub woven-counts : (k : ℕ) (rs : List Record) (items : List Item) → unmarked rs ≡ records items → items_at k (woven rs items) ≡ items_at k items
woven-counts k [] [] same = refl
woven-counts k [] (i ∷ items) same = cc
woven-counts k (scalar t c n x ∷ rs) [] same = cc
woven-counts k (scope h inner ∷ rs) [] same = cc
woven-counts k (open_type n bytes ∷ rs) [] same = cc
woven-counts k (presence_mark m ∷ rs) [] same = omega (arith, woven-counts k rs [] same)
woven-counts k (scalar t c n x ∷ rs) (i ∷ items) same =
    let first : scalar t c n x ≡ i.1 = cc in
    let others : unmarked rs ≡ records items = cc in
    one_counts k i.0 (scalar t c n x) i.1 (items_at k (woven rs items)) (items_at k items) refl first (woven-counts k rs items others)
woven-counts k (scope h inner ∷ rs) (i ∷ items) same =
    let first : scope h inner ≡ i.1 = cc in
    let others : unmarked rs ≡ records items = cc in
    one_counts k i.0 (scope h inner) i.1 (items_at k (woven rs items)) (items_at k items) refl first (woven-counts k rs items others)
woven-counts k (open_type n bytes ∷ rs) (i ∷ items) same =
    let first : open_type n bytes ≡ i.1 = cc in
    let others : unmarked rs ≡ records items = cc in
    one_counts k i.0 (open_type n bytes) i.1 (items_at k (woven rs items)) (items_at k items) refl first (woven-counts k rs items others)
woven-counts k (presence_mark m ∷ rs) (i ∷ items) same = omega (arith, woven-counts k rs (i ∷ items) same)

module _ {V : Type 0} (parts : List (ComponentType V)) (v : V) where
  -- what holds of the item holds of its record
  is_all : (r : Record) (i : Item) → r ≡ i.1 → IsAll parts v i → IsAll parts v (i.0, r)
  is_all r i same all = λ no_mark. all (ap is_presence_mark (sym same) ∙ no_mark) ∙ ap (λ x. x ∷ []) (sym same)

  pub woven-all : (rs : List Record) (items : List Item) → unmarked rs ≡ records items → All (IsAll parts v) items → All (IsAll parts v) (woven rs items)
  woven-all [] items same all = All-nil (IsAll parts v)
  woven-all (scalar t c n x ∷ rs) [] same all = cc
  woven-all (scope h inner ∷ rs) [] same all = cc
  woven-all (open_type n bytes ∷ rs) [] same all = cc
  woven-all (presence_mark m ∷ rs) [] same all = All-cons (IsAll parts v) (0, presence_mark m) (woven rs []) (λ e. cc) (woven-all rs [] same all)
  woven-all (scalar t c n x ∷ rs) (i ∷ items) same all =
      let first : scalar t c n x ≡ i.1 = cc in
      let others : unmarked rs ≡ records items = cc in
      All-cons (IsAll parts v) (i.0, scalar t c n x) (woven rs items) (is_all (scalar t c n x) i first (All-head (IsAll parts v) i items all)) (woven-all rs items others (All-tail (IsAll parts v) i items all))
  woven-all (scope h inner ∷ rs) (i ∷ items) same all =
      let first : scope h inner ≡ i.1 = cc in
      let others : unmarked rs ≡ records items = cc in
      All-cons (IsAll parts v) (i.0, scope h inner) (woven rs items) (is_all (scope h inner) i first (All-head (IsAll parts v) i items all)) (woven-all rs items others (All-tail (IsAll parts v) i items all))
  woven-all (open_type n bytes ∷ rs) (i ∷ items) same all =
      let first : open_type n bytes ≡ i.1 = cc in
      let others : unmarked rs ≡ records items = cc in
      All-cons (IsAll parts v) (i.0, open_type n bytes) (woven rs items) (is_all (open_type n bytes) i first (All-head (IsAll parts v) i items all)) (woven-all rs items others (All-tail (IsAll parts v) i items all))
  woven-all (presence_mark m ∷ rs) (i ∷ items) same all = All-cons (IsAll parts v) (0, presence_mark m) (woven rs (i ∷ items)) (λ e. cc) (woven-all rs (i ∷ items) same all)
