-- A name, or another where there is none.
use Rattle.std.proofs.Common.{◌≡◌, Some, refl}
use Rattle.std.specs.Option.{IsSome}
use Rattle.std.specs.Prelude.{None}
use Rattle.asn1_model.specs.Records.{Name, name_or}

pub named_or : (a b r : Name) → (IsSome a → r ≡ a) → (a ≡ None → r ≡ b) → r ≡ name_or a b
named_or None b r f g = g refl
named_or (Some text) b r f g = f refl
