-- Octets that end too early.
use Rattle.std.specs.Prelude.{◌≡◌, ⊤, ℕ, Option, None, Some, List, ◌++◌}
use Rattle.asn1_items.specs.declared.error.ItemError.{ItemError}
use Rattle.asn1_items.specs.declared.error.ItemError.TheVariants.{Malformed, Memory, Missing}

-- Bytes are missing.
abbrev pub IsMissing : ItemError → Type 0
IsMissing (Missing count) = ⊤
IsMissing Memory = ⊥
IsMissing Malformed = ⊥

-- The octets end too early for what is read at their beginning: it is not there, and it is where others follow that complete it.
pub record EndEarly {A : Type 0} (read : List ℕ → Option A) (octets : List ℕ) : Type 0 where
  pub none : read octets ≡ None
  pub more : List ℕ
  pub whole : A
  pub completed : read (octets ++ more) ≡ Some whole
