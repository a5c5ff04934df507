-- Positions in lists.
use Rattle.std.proofs.Common.{◌≡◌, ℕ, ◌+◌, ◌<◌, ◌≤◌, Bool, true, false, cond, not, nat_lt, Option, Some, None, List, [], ◌∷◌, ◌++◌, Contains, length, length-append, get_or, map, refl, ap, ◌∙◌, subst, arith}
use Rattle.std.specs.List.{position, position_or_len, prefix_len, slice_get}
use Rattle.std.proofs.lemmas.Bool.Decides.{nat_tests}
use Rattle.std.proofs.lemmas.Grind.{common_steps}
use Rattle.std.proofs.lemmas.List.{get_or-append-add, get_or_append_left, length-map}
use Rattle.std.proofs.lemmas.List.Quantifiers.{position-Some}
use Rattle.std.proofs.lemmas.List.Sums.{fails_before_first}
use Rattle.std.proofs.lemmas.Option.{get_or_from_slice_get, slice_get-get_or, slice_get_within}

-- indices in a list that is mapped
prefix_len-map : {X Y : Type 0} (p : Y → Bool) (f : X → Y) (xs : List X) → prefix_len p (map f xs) ≡ prefix_len (λ x. p (f x)) xs
prefix_len-map p f [] = refl
prefix_len-map p f (x ∷ xs) = ap (λ n. cond (p (f x)) (1 + n) 0) (prefix_len-map p f xs)

pub position-map : {X Y : Type 0} (p : Y → Bool) (f : X → Y) (xs : List X) → position p (map f xs) ≡ position (λ x. p (f x)) xs
position-map p f xs =
    let at : ℕ = prefix_len (λ x. not (p (f x))) xs in
    let index : ℕ → ℕ → Option ℕ = λ m n. cond (nat_lt m n) (Some m) None in
    ap (λ m. index m (length (map f xs))) (prefix_len-map (λ y. not (p y)) f xs) ∙ ap (index at) (length-map xs f)

-- facts about an index that is found
pub position-found : {X : Type 0} (p : X → Bool) (xs : List X) (i : ℕ) (d : X) → position p xs ≡ Some i →
    (x : X) × (slice_get xs i ≡ Some x) × (p x ≡ true) × ((k : ℕ) (y : X) → k < i → slice_get xs k ≡ Some y → p y ≡ false)
position-found p xs i d e =
    let found = position-Some p xs i d e in (
      get_or xs i d,
      slice_get-get_or xs i d found.0,
      found.1,
      λ k y lt at. subst (λ x. p x ≡ false) (get_or_from_slice_get xs k y d at) (found.2 k lt),
    )

-- and what it says that none is found
pub position-missing : {X : Type 0} (p : X → Bool) (xs : List X) (k : ℕ) (y : X) → position p xs ≡ None → slice_get xs k ≡ Some y → p y ≡ false
position-missing p xs k y e at =
    let past : length xs ≤ position_or_len p xs = grind (arith, nat_tests, common_steps) in
    let within = slice_get_within xs k y at in
    subst (λ x. p x ≡ false) (get_or_from_slice_get xs k y y at) (fails_before_first p xs k y (omega arith))

-- an element at an index is in the list
pub Contains-from_slice_get : {X : Type 0} (xs : List X) (i : ℕ) (x : X) → slice_get xs i ≡ Some x → Contains xs x
Contains-from_slice_get xs i x at = (i, slice_get_within xs i x at, get_or_from_slice_get xs i x x at)

-- the indices in two lists, one after the other
pub slice_get-append_left : {X : Type 0} (xs ys : List X) (i : ℕ) (x : X) → slice_get xs i ≡ Some x → slice_get (xs ++ ys) i ≡ Some x
slice_get-append_left xs ys i x at =
    let lt = slice_get_within xs i x at in
    let l = length-append xs ys in
    slice_get-get_or (xs ++ ys) i x (omega (arith, l)) ∙ ap Some (get_or_append_left xs ys x i lt ∙ get_or_from_slice_get xs i x x at)

pub slice_get-append_right : {X : Type 0} (xs ys : List X) (i : ℕ) (x : X) → slice_get ys i ≡ Some x → slice_get (xs ++ ys) (length xs + i) ≡ Some x
slice_get-append_right xs ys i x at =
    let lt = slice_get_within ys i x at in
    let l = length-append xs ys in
    slice_get-get_or (xs ++ ys) (length xs + i) x (omega (arith, l)) ∙ ap Some (get_or-append-add xs ys i x ∙ get_or_from_slice_get ys i x x at)
