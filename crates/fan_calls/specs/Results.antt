-- Results in the memory of the caller.
use Rattle.std.specs.Prelude.{◌≡◌, ◌<◌, ◌≤◌, ℕ, List, ◌++◌, drop, length}

-- The octets are at the front of the memory, the octets behind them are as before, and the size is their number.
pub record IsPut (octets old new : List ℕ) (size : ℕ) : Type 0 where
  pub fits : length octets ≤ length old
  pub are : new ≡ octets ++ drop (length octets) old
  pub size_is : size ≡ length octets

-- The octets do not fit: the memory is as before, and the size is their number.
pub record HasNoRoom (octets old new : List ℕ) (size : ℕ) : Type 0 where
  pub few : length old < length octets
  pub stays : new ≡ old
  pub size_is : size ≡ length octets

-- Octets of which this holds are at the front of the memory.
pub record Puts (Is : List ℕ → Type 0) (old new : List ℕ) (size : ℕ) : Type 0 where
  pub octets : List ℕ
  pub is : Is octets
  pub put : IsPut octets old new size

-- Octets of which this holds do not fit.
pub record LacksRoom (Is : List ℕ → Type 0) (old new : List ℕ) (size : ℕ) : Type 0 where
  pub octets : List ℕ
  pub is : Is octets
  pub no_room : HasNoRoom octets old new size
