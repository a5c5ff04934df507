-- The answers of an inner type constraint for a value (X.680, 51.8), apart from where the names lie in memory.
use Rattle.std.specs.Prelude.{ℕ, List, Result, Ok, Err}
use Rattle.asn1_bounds.specs.declared.error.InnerSubtypeConstraintError.{InnerSubtypeConstraintError}
use Rattle.asn1_bounds.specs.declared.error.InnerSubtypeConstraintError.TheVariants as error

-- Why a value is refused, with the text of a component's name: the component must be there and is not, must not be there
-- and is, has a value that it may not have, or contains what it may not contain; or there was no memory to find out.
pub data Refusal : Type 0 where
  missing : List ℕ → Refusal
  unexpected : List ℕ → Refusal
  wrong_value : List ℕ → Refusal
  wrong_content : List ℕ → Refusal
  no_memory : Refusal

-- an error, with the text of the name
abbrev pub refusal_of : InnerSubtypeConstraintError → Refusal
refusal_of (error.Missing name) = missing name.now
refusal_of (error.Unexpected name) = unexpected name.now
refusal_of (error.Value name) = wrong_value name.now
refusal_of (error.Contained name) = wrong_content name.now
refusal_of error.Memory = no_memory

-- the value that came back, or why it was refused
abbrev pub outcome : {T : Type 0} → Result T InnerSubtypeConstraintError → Result T Refusal
outcome (Ok value) = Ok value
outcome (Err e) = Err (refusal_of e)
