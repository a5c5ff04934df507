-- Statuses are told by their numbers.
use Rattle.std.proofs.Common.{◌≡◌, ◌∙◌, ℤ, pos, zero, suc, ap, of_z, refl, sym, to_z, w32}
use Rattle.fan_calls.specs.Statuses.{number_of}
use Rattle.fan_calls.specs.declared.status.Status.{Status}
use Rattle.fan_calls.specs.declared.status.Status.TheVariants.{Ok, Fault, Room, Memory, Deep}

-- a number as 32 bits hold it, which is how a call answers it
abbrev pub kept : ℤ → ℤ
kept n = to_z w32 (of_z w32 n)

-- the status of a number
abbrev status_of : ℤ → Status
status_of (pos zero) = Ok
status_of (pos (suc zero)) = Fault
status_of (pos (suc (suc zero))) = Room
status_of (pos (suc (suc (suc zero)))) = Memory
status_of _ = Deep

-- the number that a call answers is that of its status
kept_back : (s : Status) → status_of (kept (number_of s)) ≡ s
kept_back Ok = refl
kept_back Fault = refl
kept_back Room = refl
kept_back Memory = refl
kept_back Deep = refl

-- 32 bits hold the number of a status
pub kept_number : (s : Status) → kept (number_of s) ≡ number_of s
kept_number Ok = refl
kept_number Fault = refl
kept_number Room = refl
kept_number Memory = refl
kept_number Deep = refl

back : (s : Status) → status_of (number_of s) ≡ s
back Ok = refl
back Fault = refl
back Room = refl
back Memory = refl
back Deep = refl

-- a call whose number is that of a status answered this status
pub same_status : (s t : Status) (n : ℤ) → n ≡ number_of s → kept n ≡ number_of t → s ≡ t
same_status s t n is same = sym (kept_back s) ∙ (ap (λ m. status_of (kept m)) (sym is) ∙ (ap status_of same ∙ back t))
