-- The indices of tags among the leaves of trees.
use Rattle.std.proofs.Common.{◌≡◌, ◌≢◌, ℕ, Bool, true, false, cond, Option, Some, None, IfSome, zero-add, ◌||◌, not, List, [], ◌∷◌, ◌++◌, ◌+◌, ◌<◌, ◌≤◌, ◌^◌, ◌-◌, min, Result, Ok, Err, AllPairs, length, get_or, take, drop, refl, sym, ap, ◌∙◌, subst, arith}
use Rattle.std.specs.List.{slice_get, position_or_len, list_any}
use Rattle.std.specs.Result.{result_ok}
use Rattle.std.proofs.lemmas.Bool.{false≢true}
use Rattle.std.proofs.lemmas.Bool.Decides.{nat_tests}
use Rattle.std.proofs.lemmas.Grind.{common_steps}
use Rattle.std.proofs.lemmas.List.{get_or-append-add, get_or_append_left}
use Rattle.std.proofs.lemmas.List.Sums.{prefix_len-le-length, passes_at_first, position_or_len_is}
use Rattle.std.proofs.lemmas.Option.{slice_get-get_or, slice_get_past, slice_get_within, get_or_from_slice_get}
use Rattle.asn1_tags.specs.Tags.{has, tag_eq, position_of}
use Rattle.asn1_tags.specs.Walks.{IsTagAfter}
use Rattle.asn1_tags.specs.Trees.{shape, shapes, leaves, leaves_of}
use Rattle.asn1_tags.specs.declared.tags.Tag.{Tag}
use Rattle.asn1_tags.specs.declared.trees.TagTree.{TagTree}
use Rattle.asn1_tags.proofs.TagListTests.{tag_eq-true, tag_eq-refl}
use Rattle.asn1_tags.proofs.Leaves.{count_more, count_upto, has_at, has_more, leaves_of-split, leaves_of-take, leaves_of-drop}

first_in_front : (q : Tag → Bool) (ys zs : List Tag) → list_any q ys ≡ true → position_or_len q ys ≡ position_or_len q (ys ++ zs)
first_in_front q [] zs here = absurd (false≢true here)
first_in_front q (y ∷ ys) zs here = by_test (q y) (first_in_front q ys zs) here
  where
    by_test : (b : Bool) → (list_any q ys ≡ true → position_or_len q ys ≡ position_or_len q (ys ++ zs)) → (b || list_any q ys) ≡ true →
        cond (not b) (1 + position_or_len q ys) 0 ≡ cond (not b) (1 + position_or_len q (ys ++ zs)) 0
    by_test true f h = refl
    by_test false f h = ap (λ n. 1 + n) (f h)

-- the first index after a list that has none
first_after : (q : Tag → Bool) (xs ys : List Tag) → list_any q xs ≡ false → length xs + position_or_len q ys ≡ position_or_len q (xs ++ ys)
first_after q [] ys none = zero-add (position_or_len q ys)
first_after q (x ∷ xs) ys none =
    let off : q x ≡ false = grind (arith, common_steps) in
    let rest : list_any q xs ≡ false = grind (arith, common_steps) in
    let ih = first_after q xs ys rest in
    rw off (omega arith)

-- an index is within the list, or just past it
index_within : (q : Tag → Bool) (ts : List Tag) → position_or_len q ts ≤ length ts
index_within q ts = prefix_len-le-length (λ x. not (q x)) ts

-- the index of the tag, where it is first met in the tree at i
pub index_at : (t : Tag) (ts : List TagTree) (i p : ℕ) (d : TagTree) → i < length ts →
    has t (leaves_of (shapes (take i ts))) ≡ false → has t (leaves (shape (get_or ts i d))) ≡ true →
    p ≡ position_or_len (λ s. tag_eq s t) (leaves (shape (get_or ts i d))) →
    length (leaves_of (shapes (take i ts))) + p ≡ position_or_len (λ s. tag_eq s t) (leaves_of (shapes ts))
index_at t ts i p d lt none here e =
    let q : Tag → Bool = λ s. tag_eq s t in
    let xs = leaves_of (shapes (take i ts)) in
    let ys = leaves (shape (get_or ts i d)) in
    let zs = leaves_of (shapes (drop (i + 1) ts)) in
    let whole : leaves_of (shapes ts) ≡ xs ++ (ys ++ zs) = leaves_of-split ts i ∙ ap (λ ls. xs ++ ls) (leaves_of-drop ts i d lt) in
    ap (λ n. length xs + n) (e ∙ first_in_front q ys zs here) ∙ first_after q xs (ys ++ zs) none ∙ sym (ap (position_or_len q) whole)

-- a tag that is found in the tree at i, after n leaves that are others
pub found_at : (t : Tag) (ts : List TagTree) (i n p : ℕ) (d : TagTree) → i < length ts →
    (n ≡ length (leaves_of (shapes (take i ts)))) × (has t (leaves_of (shapes (take i ts))) ≡ false) →
    (has t (leaves (shape (get_or ts i d))) ≡ true) × (p ≡ position_or_len (λ s. tag_eq s t) (leaves (shape (get_or ts i d)))) →
    length (leaves_of (shapes ts)) < 2 ^ 64 →
    (has t (leaves_of (shapes ts)) ≡ true) × (min (n + p) (2 ^ 64 - 1) ≡ position_or_len (λ s. tag_eq s t) (leaves_of (shapes ts)))
found_at t ts i n p d lt passed found fits =
    let index = index_at t ts i p d lt passed.1 found.0 found.1 in
    let within = index_within (λ s. tag_eq s t) (leaves_of (shapes ts)) in
    (has_at t ts i d lt found.0, omega arith)

-- a tree that does not have the tag, after n leaves that are others
pub passed_at : (t : Tag) (ts : List TagTree) (i n m : ℕ) (d : TagTree) → i < length ts →
    (n ≡ length (leaves_of (shapes (take i ts)))) × (has t (leaves_of (shapes (take i ts))) ≡ false) →
    (has t (leaves (shape (get_or ts i d))) ≡ false) × (m ≡ length (leaves (shape (get_or ts i d)))) →
    length (leaves_of (shapes ts)) < 2 ^ 64 →
    (min (n + m) (2 ^ 64 - 1) ≡ length (leaves_of (shapes (take (i + 1) ts)))) × (has t (leaves_of (shapes (take (i + 1) ts))) ≡ false)
passed_at t ts i n m d lt passed absent fits =
    let more = count_more ts i d lt in
    let upto = count_upto ts i d lt in
    let step = has_more t ts i d lt in
    (omega arith, grind (arith, common_steps, step))

-- the leaf after this many others of the tree at i
pub leaf_after_at : (ts : List TagTree) (i k : ℕ) (d : TagTree) (t : Tag) → i < length ts → k < length (leaves (shape (get_or ts i d))) →
    get_or (leaves_of (shapes ts)) (length (leaves_of (shapes (take i ts))) + k) t ≡ get_or (leaves (shape (get_or ts i d))) k t
leaf_after_at ts i k d t lt within =
    let xs = leaves_of (shapes (take i ts)) in
    let ys = leaves (shape (get_or ts i d)) in
    let zs = leaves_of (shapes (drop (i + 1) ts)) in
    let whole : leaves_of (shapes ts) ≡ xs ++ (ys ++ zs) = leaves_of-split ts i ∙ ap (λ ls. xs ++ ls) (leaves_of-drop ts i d lt) in
    ap (λ ls. get_or ls (length xs + k) t) whole ∙ get_or-append-add xs (ys ++ zs) k t ∙ get_or_append_left ys zs t k within

none_there : (q : Tag → Bool) (ts : List Tag) → list_any q ts ≡ false → position_or_len q ts ≡ length ts
none_there q [] h = refl
none_there q (t ∷ ts) h =
    let off : q t ≡ false = grind (arith, common_steps) in
    let rest : list_any q ts ≡ false = grind (arith, common_steps) in
    let ih = none_there q ts rest in
    rw off (omega arith)

some_there : (q : Tag → Bool) (ts : List Tag) → list_any q ts ≡ true → position_or_len q ts < length ts
some_there q [] h = absurd (false≢true h)
some_there q (t ∷ ts) h = by_test (q t) (some_there q ts) h
  where
    by_test : (b : Bool) → (list_any q ts ≡ true → position_or_len q ts < length ts) → (b || list_any q ts) ≡ true →
        cond (not b) (1 + position_or_len q ts) 0 < length (t ∷ ts)
    by_test true f h = omega arith
    by_test false f h = let k = f h in omega arith

-- a tag that is not there has no index
pub position_of-none : (t : Tag) (ts : List Tag) → has t ts ≡ false → position_of t ts ≡ None
position_of-none t ts h =
    let e = none_there (λ s. tag_eq s t) ts h in
    grind (arith, nat_tests)

-- a tag that is there has one
pub position_of-some : (t : Tag) (ts : List Tag) → has t ts ≡ true → position_of t ts ≡ Some (position_or_len (λ s. tag_eq s t) ts)
position_of-some t ts h =
    let e = some_there (λ s. tag_eq s t) ts h in
    grind (arith, nat_tests)

-- and is there
pub slice_get-position : (t : Tag) (ts : List Tag) → has t ts ≡ true → slice_get ts (position_or_len (λ s. tag_eq s t) ts) ≡ Some t
slice_get-position t ts h =
    let q : Tag → Bool = λ s. tag_eq s t in
    let within = some_there q ts h in
    slice_get-get_or ts (position_or_len q ts) t within ∙ ap Some (tag_eq-true (get_or ts (position_or_len q ts) t) t (passes_at_first q ts t within))

-- if each tag occurs once, an index is the first index of its tag
pub position_of-unique : (t : Tag) (ts : List Tag) (k : ℕ) → AllPairs (λ s u. s ≢ u) ts → slice_get ts k ≡ Some t → position_of t ts ≡ Some k
position_of-unique t ts k apart e =
    let q : Tag → Bool = λ s. tag_eq s t in
    let within : k < length ts = slice_get_within ts k t e in
    let here : get_or ts k t ≡ t = get_or_from_slice_get ts k t t e in
    let first : position_or_len q ts ≡ k =
    position_or_len_is q ts k t (omega arith)
    (λ j lt. before (tag_eq (get_or ts j t) t) j refl lt here within)
    (λ _. subst (λ s. tag_eq s t ≡ true) (sym here) (tag_eq-refl t)) in
    grind (arith, nat_tests)
  where
    before : (b : Bool) → (j : ℕ) → tag_eq (get_or ts j t) t ≡ b → j < k → get_or ts k t ≡ t → k < length ts → tag_eq (get_or ts j t) t ≡ false
    before false j f lt here within = f
    before true j f lt here within = absurd (apart j k t lt within (tag_eq-true (get_or ts j t) t f ∙ sym here))

-- the tag after k others is at k
pub IsTagAfter-is : (ts : List Tag) (k : ℕ) (r : Result Tag ℕ) → IsTagAfter ts k r → result_ok r ≡ slice_get ts k
IsTagAfter-is ts k (Ok t) h = sym (slice_get-get_or ts k t h.0 ∙ ap Some (sym h.1))
IsTagAfter-is ts k (Err left) h = sym (slice_get_past ts k (omega arith))

-- the tag at an index has that first index, if each tag occurs once
pub position_of-slice_get : (ts : List Tag) (k : ℕ) (r : Option Tag) → r ≡ slice_get ts k → AllPairs (λ s u. s ≢ u) ts →
    IfSome r (λ t. position_of t ts ≡ Some k)
position_of-slice_get ts k None e apart = tt
position_of-slice_get ts k (Some t) e apart = position_of-unique t ts k apart (sym e)

-- the steps of the walks that number leaves
pub ruleset steps = (count_more, count_upto, leaf_after_at)

-- how an index and a tag answer each other
pub ruleset leaf_positions = (position_of-none, position_of-some, slice_get-position, IsTagAfter-is)
