-- How many whole numbers a set of them has.
use Rattle.std.specs.Prelude.{◌≡◌, ℕ, ◌<◌, ℤ, pos, negsuc, ◌+ℤ◌, ◌-ℤ◌}

-- the number, and 0 in place of one below it
abbrev pub at_least_zero : ℤ → ℕ
at_least_zero (pos n) = n
at_least_zero (negsuc n) = 0

-- how many whole numbers there are from the first to the last: none if the first is above the last
abbrev pub numbers_between : ℤ → ℤ → ℕ
numbers_between first last = at_least_zero (last -ℤ first +ℤ pos 1)

-- how far the value is above the start
abbrev pub distance : {T : Type 0} → (T → ℤ) → T → T → ℤ
distance number start value = number value -ℤ number start

-- a set of whole numbers has this many: its members can be counted, from the one at 0 to the one before the count
pub record HasCount (Member : ℤ → Type 0) (count : ℕ) : Type 0 where
  pub nth : ℕ → ℤ
  pub belongs : (i : ℕ) → i < count → Member (nth i)
  pub once : (i j : ℕ) → nth i ≡ nth j → i ≡ j
  pub every : (n : ℤ) → Member n → (i : ℕ) × (i < count) × (nth i ≡ n)
