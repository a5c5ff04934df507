-- Calls of an iterator over an input.
use Rattle.std.specs.Prelude.{◌≡◌, ◌⊎◌, ℕ, Option, Some, Result, Ok, Err}
use Rattle.asn1_laws.specs.declared.decode_error.DecodeError.{DecodeError}
use Rattle.asn1_rules.specs.Fronts.{Fronts, IsFront, IsNoFront}
use Rattle.asn1_rules.specs.States.{State, IsTaken}

module _ {R V : Type 0} (F : Fronts R V) where
  -- A value was read: it is the answer for the front of what was unread, and its `n` bytes have
  -- been taken.
  pub record Took (old new : State R) (v : V) : Type 0 where
    pub n : ℕ
    pub front : IsFront F old.reader old.unread (v, n)
    pub taken : IsTaken n old new

  -- No value was read, as the reader may fail where this is unread, and nothing has changed.
  pub record Kept (old new : State R) (e : DecodeError) : Type 0 where
    pub no_front : IsNoFront F old.reader old.unread e
    pub unchanged : new ≡ old

  -- a call of `next`, which always answers a value or an error
  abbrev pub Steps : State R → Option (Result V DecodeError) → State R → Type 0
  Steps old item new = ((v : V) × (item ≡ Some (Ok v)) × Took old new v) ⊎ ((e : DecodeError) × (item ≡ Some (Err e)) × Kept old new e)
