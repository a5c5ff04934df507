-- The index of the first element that passes a test.
use Rattle.std.proofs.Common.{◌≡◌, ℕ, ◌+◌, suc, Bool, true, false, ◌||◌, not, cond, nat_lt, List, [], ◌∷◌, length, Some, None, refl, sym, ◌∙◌, arith}
use Rattle.std.proofs.lemmas.Bool.Decides.{nat_tests}
use Rattle.std.specs.List.{list_any, position, position_or_len}
use Rattle.std.specs.Option.{is_some}

before_the_end : {T : Type 0} (p : T → Bool) (xs : List T) → list_any p xs ≡ nat_lt (position_or_len p xs) (length xs)
before_the_end p [] = refl
before_the_end p (x ∷ xs) = by_test (p x) (before_the_end p xs)
  where
    by_test : (b : Bool) → list_any p xs ≡ nat_lt (position_or_len p xs) (length xs) →
        (b || list_any p xs) ≡ nat_lt (cond (not b) (1 + position_or_len p xs) 0) (suc (length xs))
    by_test true e = grind (arith, nat_tests)
    by_test false e = grind (arith, nat_tests, e)

some_where : (b : Bool) (n : ℕ) → is_some (cond b (Some n) None) ≡ b
some_where true n = refl
some_where false n = refl

-- an element passes the test if and only if there is a first index of one
pub list_any_by_position : {T : Type 0} (p : T → Bool) (xs : List T) → list_any p xs ≡ is_some (position p xs)
list_any_by_position p xs =
    before_the_end p xs ∙ sym (some_where (nat_lt (position_or_len p xs) (length xs)) (position_or_len p xs))
