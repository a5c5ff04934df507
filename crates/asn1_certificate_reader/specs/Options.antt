-- Values that may be absent.
use Rattle.std.specs.Prelude.{⊤, None, Option, Some}

-- both are there, and the relation holds of them; or neither is there
abbrev pub AreBothOrNone : {A B : Type 0} → (A → B → Type 0) → Option A → Option B → Type 0
AreBothOrNone R (Some a) (Some b) = R a b
AreBothOrNone R None None = ⊤
AreBothOrNone R _ _ = ⊥
