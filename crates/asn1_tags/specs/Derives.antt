-- The promises of derived members.
use Rattle.std.specs.Prelude.{◌≡◌, ◌↔◌, Bool, IsTrue}

-- two values are equal if and only if they are the same
abbrev pub ComparesAll : {T : Type 0} → (T → T → Bool) → Type 0
ComparesAll {T} eq = (a b : T) → (IsTrue (eq a b) ↔ (a ≡ b))

-- each value has a clone, and it is the value itself
abbrev pub ClonesAll : {T : Type 0} → (T → T → Type 0) → (T → Type 0) → Type 0
ClonesAll {T} is_clone is_infallible = ((a : T) → is_infallible a) × ((a b : T) → is_clone a b → b ≡ a)
