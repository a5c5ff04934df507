-- Searches of lists, and what they decide.
use Rattle.std.proofs.Common.{◌≡◌, ◌↔◌, Bool, true, false, not, cond, List, [], ◌∷◌, ◌++◌, ◌<◌, ◌+◌, ℕ, length, take, get_or, refl, rules, arith}
use Rattle.std.proofs.lemmas.Grind.{common_steps}
use Rattle.std.specs.Bool.{Decides}
use Rattle.std.specs.List.{All, Any, filter, list_any}
use Rattle.std.proofs.lemmas.List.Folds.{Any-from_list_any, list_any-from_Any}
use Rattle.std.proofs.lemmas.List.Elements.{All-nil, All-cons, All-head, All-tail}

-- a test of each element decides whether some element has the property
pub any_decides : {X : Type 0} {P : X → Type 0} (p : X → Bool) → ((x : X) → Decides (p x) (P x)) → (xs : List X) → Decides (list_any p xs) (Any P xs)
any_decides {X} {P} p each xs = (
  λ found. let some = Any-from_list_any p xs found in (some.0, some.1, some.2, some.3, (each some.1).0 some.4),
  λ some. list_any-from_Any p xs (some.0, some.1, some.2, some.3, (each some.1).1 some.4),
)

-- a list that a test keeps an element out of is empty where the test is passed and the others are out
kept_out : {X : Type 0} (b : Bool) (x : X) (ys : List X) → cond (not b) (x ∷ ys) ys ≡ [] → (b ≡ true) × (ys ≡ [])
kept_out true x ys empty = (refl, empty)
kept_out false x ys empty = search rules

all_pass : {X : Type 0} {P : X → Type 0} (p : X → Bool) → ((x : X) → Decides (p x) (P x)) → (xs : List X) → filter (λ x. not (p x)) xs ≡ [] → All P xs
all_pass {X} {P} p each [] empty = All-nil P
all_pass {X} {P} p each (x ∷ xs) empty =
    let parts = kept_out (p x) x (filter (λ y. not (p y)) xs) empty in
    All-cons P x xs ((each x).0 parts.0) (all_pass p each xs parts.1)

none_left : {X : Type 0} {P : X → Type 0} (p : X → Bool) → ((x : X) → Decides (p x) (P x)) → (xs : List X) → All P xs → filter (λ x. not (p x)) xs ≡ []
none_left {X} {P} p each [] all = refl
none_left {X} {P} p each (x ∷ xs) all =
    let passed : p x ≡ true = (each x).1 (All-head P x xs all) in
    rw passed (none_left p each xs (All-tail P x xs all))

-- no element is left out of a list by a test exactly if each has the property that the test decides
pub none_fail : {X : Type 0} {P : X → Type 0} (p : X → Bool) → ((x : X) → Decides (p x) (P x)) → (xs : List X) → (filter (λ x. not (p x)) xs ≡ []) ↔ All P xs
none_fail p each xs = (all_pass p each xs, none_left p each xs)

-- one more element of a list that passes a test, or does not
pub filter_put : {X : Type 0} (p : X → Bool) (xs : List X) (i : ℕ) (x : X) (before after : List X) → i < length xs → p (get_or xs i x) ≡ true → before ≡ filter p (take i xs) → after ≡ before ++ get_or xs i x ∷ [] → after ≡ filter p (take (i + 1) xs)
filter_put p xs i x before after within passes so_far more = grind (arith, common_steps)

pub filter_left : {X : Type 0} (p : X → Bool) (xs : List X) (i : ℕ) (x : X) (before after : List X) → i < length xs → p (get_or xs i x) ≡ false → before ≡ filter p (take i xs) → after ≡ before → after ≡ filter p (take (i + 1) xs)
filter_left p xs i x before after within fails so_far same = grind (arith, common_steps)
