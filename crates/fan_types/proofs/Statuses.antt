-- A status is one of all.
use Rattle.std.proofs.Common.{◌≡◌, inl, inr, refl}
use Rattle.std.specs.Prelude.{◌⊎◌}
use Rattle.fan_calls.specs.declared.status.Status.{Status}
use Rattle.fan_calls.specs.declared.status.Status.TheVariants.{Ok, Fault, Room, Memory, Deep}

pub one_of_all : (s : Status) → (s ≡ Ok) ⊎ ((s ≡ Fault) ⊎ ((s ≡ Room) ⊎ ((s ≡ Memory) ⊎ (s ≡ Deep))))
one_of_all Ok = inl refl
one_of_all Fault = inr (inl refl)
one_of_all Room = inr (inr (inl refl))
one_of_all Memory = inr (inr (inr (inl refl)))
one_of_all Deep = inr (inr (inr (inr refl)))
