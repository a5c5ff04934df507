-- The records of a SET, each with the index of its component.
use Rattle.std.proofs.Common.{◌≡◌, ℕ, zero, suc, ◌+◌, ◌<◌, ◌≤◌, Bool, true, false, cond, List, [], ◌∷◌, ◌++◌, map, length, refl, ap, sym, ◌∙◌, arith}
use Rattle.std.specs.Prelude.{◌==◌, ⊤, IsPermutation, if◌then◌else◌}
use Rattle.std.specs.List.{All, sum_by}
use Rattle.std.proofs.lemmas.Bool.Decides.{nat_tests}
use Rattle.std.proofs.lemmas.List.Elements.{All-append, All-cons, All-map, All-nil, All-tail, All-weaker}
use Rattle.std.proofs.lemmas.List.Sorted.{sum_by-IsPermutation}
use Rattle.std.proofs.lemmas.List.Sums.{sum_by-cons}
use Rattle.asn1_components.specs.ComponentLists.{all_records}
use Rattle.asn1_components.specs.ComponentTypes.{ComponentType}
use Rattle.asn1_laws.specs.Reading.{marks_passed, records_in}
use Rattle.asn1_model.specs.Records.{Record, scalar, scope, open_type, presence_mark, highest, is_presence_mark, unmarked}
use Rattle.asn1_model.specs.Tags.{first_tags}
use Rattle.asn1_laws.specs.SetParts.{EachIsOneRecord, written_of}

-- the index of a component, and a record of it or a mark
abbrev pub Item : Type 0
Item = ℕ × Record

abbrev pub records : List Item → List Record
records items = map (λ i. i.1) items

-- those of the list, each with this index
abbrev labelled : ℕ → List Record → List Item
labelled k rs = map (λ r. (k, r)) rs

-- the items of a value's components, from this index on
abbrev pub items_from : {V : Type 0} → ℕ → List (ComponentType V) → V → List Item
items_from k [] v = []
items_from k (c ∷ cs) v = labelled k (c.records v) ++ items_from (k + 1) cs v

-- how many records of the component of this index are among them
abbrev is_of : ℕ → Item → Bool
is_of k i = if is_presence_mark i.1 then false else (i.0 == k)

abbrev pub items_at : ℕ → List Item → ℕ
items_at k [] = 0
items_at k (i ∷ items) = cond (is_of k i) 1 0 + items_at k items

records-labelled : (k : ℕ) (rs : List Record) → records (labelled k rs) ≡ rs
records-labelled k [] = refl
records-labelled k (r ∷ rs) = ap (λ l. r ∷ l) (records-labelled k rs)

records-append : (items others : List Item) → records (items ++ others) ≡ records items ++ records others
records-append [] others = refl
records-append (i ∷ items) others = ap (λ l. i.1 ∷ l) (records-append items others)

pub their_records : {V : Type 0} (k : ℕ) (cs : List (ComponentType V)) (v : V) → records (items_from k cs v) ≡ all_records cs v
their_records k [] v = refl
their_records k (c ∷ cs) v =
    records-append (labelled k (c.records v)) (items_from (k + 1) cs v)
    ∙ ap (λ l. l ++ records (items_from (k + 1) cs v)) (records-labelled k (c.records v))
    ∙ ap (λ l. c.records v ++ l) (their_records (k + 1) cs v)

-- as many without the marks
pub length-unmarked : (rs : List Record) → length (unmarked rs) ≡ records_in rs
length-unmarked [] = refl
length-unmarked (scalar t c n x ∷ rs) = ap suc (length-unmarked rs)
length-unmarked (scope h inner ∷ rs) = ap suc (length-unmarked rs)
length-unmarked (open_type n bytes ∷ rs) = ap suc (length-unmarked rs)
length-unmarked (presence_mark m ∷ rs) = length-unmarked rs

pub at_most_one : {V : Type 0} (cs : List (ComponentType V)) (v : V) (k : ℕ) → EachIsOneRecord cs v → length (written_of cs v k) ≤ 1
at_most_one [] v k one = omega arith
at_most_one (c ∷ cs) v zero one = omega (arith, length-unmarked (c.records v), one.0)
at_most_one (c ∷ cs) v (suc k) one = at_most_one cs v k one.1

-- The record is all that is written of its component.
abbrev pub IsAll : {V : Type 0} → List (ComponentType V) → V → Item → Type 0
IsAll cs v i = is_presence_mark i.1 ≡ false → written_of cs v i.0 ≡ i.1 ∷ []

-- the record is a mark, or all of these
abbrev AllOf : List Record → Record → Type 0
AllOf rs r = is_presence_mark r ≡ false → rs ≡ r ∷ []

pub nothing : {X : Type 0} (rs : List X) → length rs ≡ 0 → rs ≡ []
nothing [] h = refl
nothing (r ∷ rs) h = absurd (omega arith)

marks_only : (qs rs : List Record) → records_in rs ≡ 0 → All (AllOf qs) rs
marks_only qs [] few = All-nil (AllOf qs)
marks_only qs (scalar t c n x ∷ rs) few = absurd (omega (arith, few))
marks_only qs (scope h inner ∷ rs) few = absurd (omega (arith, few))
marks_only qs (open_type n bytes ∷ rs) few = absurd (omega (arith, few))
marks_only qs (presence_mark m ∷ rs) few = All-cons (AllOf qs) (presence_mark m) rs (λ e. cc) (marks_only qs rs few)

then_marks : (r : Record) (rs : List Record) → records_in rs ≡ 0 → All (AllOf (r ∷ unmarked rs)) (r ∷ rs)
then_marks r rs few =
    All-cons (AllOf (r ∷ unmarked rs)) r rs (λ _. ap (λ l. r ∷ l) (nothing (unmarked rs) (length-unmarked rs ∙ few))) (marks_only (r ∷ unmarked rs) rs few)

one_at_most : (rs : List Record) → records_in rs ≤ 1 → All (AllOf (unmarked rs)) rs
one_at_most [] few = All-nil (AllOf [])
one_at_most (scalar t c n x ∷ rs) few = then_marks (scalar t c n x) rs (omega (arith, few))
one_at_most (scope h inner ∷ rs) few = then_marks (scope h inner) rs (omega (arith, few))
one_at_most (open_type n bytes ∷ rs) few = then_marks (open_type n bytes) rs (omega (arith, few))
one_at_most (presence_mark m ∷ rs) few = All-cons (AllOf (unmarked rs)) (presence_mark m) rs (λ e. cc) (one_at_most rs few)

-- so it is for each item
pub all_are : {V : Type 0} (all cs : List (ComponentType V)) (k : ℕ) (v : V) → ((i : ℕ) → written_of all v (k + i) ≡ written_of cs v i) → EachIsOneRecord cs v → All (IsAll all v) (items_from k cs v)
all_are all [] k v at one = All-nil (IsAll all v)
all_are all (c ∷ cs) k v at one =
    let same : k ≡ k + 0 = omega arith in
    let first : written_of all v k ≡ unmarked (c.records v) = ap (written_of all v) same ∙ at 0 in
    All-append (IsAll all v) (labelled k (c.records v)) (items_from (k + 1) cs v)
    (All-map (IsAll all v) (λ r. (k, r)) (c.records v)
    (All-weaker (AllOf (unmarked (c.records v))) (AllOf (written_of all v k)) (λ r h e. first ∙ h e) (c.records v) (one_at_most (c.records v) one.0)))
    (all_are all cs (k + 1) v (λ i. let next : k + 1 + i ≡ k + suc i = omega arith in ap (written_of all v) next ∙ at (suc i)) one.1)

-- How many there are of each.
none_more : (b : Bool) (n : ℕ) → b ≡ false → n ≡ 0 → cond b 1 0 + n ≡ 0
none_more true n other zero_is = cc
none_more false n other zero_is = omega (arith, zero_is)

one_more : (b : Bool) (n m : ℕ) → b ≡ true → n ≡ m → cond b 1 0 + n ≡ suc m
one_more true n m own same = omega (arith, same)
one_more false n m own same = cc

items_at-others : (k j : ℕ) (rs : List Record) → (j == k) ≡ false → items_at k (labelled j rs) ≡ 0
items_at-others k j [] other = refl
items_at-others k j (scalar t c n x ∷ rs) other = none_more (j == k) (items_at k (labelled j rs)) other (items_at-others k j rs other)
items_at-others k j (scope h inner ∷ rs) other = none_more (j == k) (items_at k (labelled j rs)) other (items_at-others k j rs other)
items_at-others k j (open_type n bytes ∷ rs) other = none_more (j == k) (items_at k (labelled j rs)) other (items_at-others k j rs other)
items_at-others k j (presence_mark m ∷ rs) other = none_more false (items_at k (labelled j rs)) refl (items_at-others k j rs other)

items_at-own : (k j : ℕ) (rs : List Record) → (j == k) ≡ true → items_at k (labelled j rs) ≡ length (unmarked rs)
items_at-own k j [] own = refl
items_at-own k j (scalar t c n x ∷ rs) own = one_more (j == k) (items_at k (labelled j rs)) (length (unmarked rs)) own (items_at-own k j rs own)
items_at-own k j (scope h inner ∷ rs) own = one_more (j == k) (items_at k (labelled j rs)) (length (unmarked rs)) own (items_at-own k j rs own)
items_at-own k j (open_type n bytes ∷ rs) own = one_more (j == k) (items_at k (labelled j rs)) (length (unmarked rs)) own (items_at-own k j rs own)
items_at-own k j (presence_mark m ∷ rs) own = omega (arith, items_at-own k j rs own)

items_at-append : (k : ℕ) (items others : List Item) → items_at k (items ++ others) ≡ items_at k items + items_at k others
items_at-append k [] others = omega arith
items_at-append k (i ∷ items) others = omega (arith, items_at-append k items others)

differ : (j k : ℕ) → k < j → (j == k) ≡ false
differ j k less = grind (arith, nat_tests)

differ_too : (j k : ℕ) → j < k → (j == k) ≡ false
differ_too j k less = grind (arith, nat_tests)

are_same : (j k : ℕ) → j ≡ k → (j == k) ≡ true
are_same j k same = grind (arith, nat_tests)

none_before : {V : Type 0} (cs : List (ComponentType V)) (j k : ℕ) (v : V) → k < j → items_at k (items_from j cs v) ≡ 0
none_before [] j k v less = refl
none_before (c ∷ cs) j k v less =
    omega (arith, items_at-append k (labelled j (c.records v)) (items_from (j + 1) cs v), items_at-others k j (c.records v) (differ j k less), none_before cs (j + 1) k v (omega (arith, less)))

pub as_many_as_written : {V : Type 0} (cs : List (ComponentType V)) (j i k : ℕ) (v : V) → k ≡ j + i → items_at k (items_from j cs v) ≡ length (written_of cs v i)
as_many_as_written [] j i k v is = refl
as_many_as_written (c ∷ cs) j zero k v is =
    omega (arith, items_at-append k (labelled j (c.records v)) (items_from (j + 1) cs v), items_at-own k j (c.records v) (are_same j k (omega (arith, is))), none_before cs (j + 1) k v (omega (arith, is)))
as_many_as_written (c ∷ cs) j (suc i) k v is =
    omega (arith, items_at-append k (labelled j (c.records v)) (items_from (j + 1) cs v), items_at-others k j (c.records v) (differ_too j k (omega (arith, is))), as_many_as_written cs (j + 1) i k v (omega (arith, is)))

items_at-sum : (k : ℕ) (items : List Item) → items_at k items ≡ sum_by (λ i. cond (is_of k i) 1 0) items
items_at-sum k [] = refl
items_at-sum k (i ∷ items) = ap (λ n. cond (is_of k i) 1 0 + n) (items_at-sum k items) ∙ sym (sum_by-cons (λ j. cond (is_of k j) 1 0) i items)

pub items_at-permutation : (k : ℕ) (items others : List Item) → IsPermutation items others → items_at k items ≡ items_at k others
items_at-permutation k items others moved =
    items_at-sum k items ∙ sym (sum_by-IsPermutation (λ i. cond (is_of k i) 1 0) items others moved) ∙ sym (items_at-sum k others)

-- The items without the marks in front.
abbrev pub front : List Item → List Item
front [] = []
front (i ∷ items) = if is_presence_mark i.1 then front items else i ∷ items

-- the first of them is no mark
abbrev pub BeginsWithRecord : List Item → Type 0
BeginsWithRecord [] = ⊤
BeginsWithRecord (i ∷ items) = is_presence_mark i.1 ≡ false

-- The same facts of a list without the marks in front.
pub record IsFront (items others : List Item) : Type 0 where
  pub passed : marks_passed (records items) ≡ records others
  pub begins : BeginsWithRecord others
  pub tags : first_tags (records items) ≡ first_tags (records others)
  pub as_many : records_in (records items) ≡ records_in (records others)
  pub as_high : highest (records items) ≡ highest (records others)
  pub counts : (k : ℕ) → items_at k items ≡ items_at k others

pub all_in_front : (P : Item → Type 0) (items : List Item) → All P items → All P (front items)
all_in_front P [] all = all
all_in_front P ((k, scalar t c n x) ∷ items) all = all
all_in_front P ((k, scope h inner) ∷ items) all = all
all_in_front P ((k, open_type n bytes) ∷ items) all = all
all_in_front P ((k, presence_mark m) ∷ items) all = all_in_front P items (All-tail P (k, presence_mark m) items all)

pub is_front : (items : List Item) → IsFront items (front items)
is_front [] = record { passed = refl; begins = tt; tags = refl; as_many = refl; as_high = refl; counts = λ k. refl }
is_front ((k, scalar t c n x) ∷ items) = record { passed = refl; begins = refl; tags = refl; as_many = refl; as_high = refl; counts = λ j. refl }
is_front ((k, scope h inner) ∷ items) = record { passed = refl; begins = refl; tags = refl; as_many = refl; as_high = refl; counts = λ j. refl }
is_front ((k, open_type n bytes) ∷ items) = record { passed = refl; begins = refl; tags = refl; as_many = refl; as_high = refl; counts = λ j. refl }
is_front ((k, presence_mark m) ∷ items) =
    let f = is_front items in
    record {
      passed = f.passed;
      begins = f.begins;
      tags = f.tags;
      as_many = f.as_many;
      as_high = omega (arith, f.as_high);
      counts = λ j. omega (arith, f.counts j);
    }
