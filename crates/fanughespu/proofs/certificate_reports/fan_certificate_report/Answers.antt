use Rattle.std.proofs.Common.{◌≡◌, ◌∙◌, ℤ, arith, inl, inr, pos, subst, sym, refl, w32, to_z, of_z}
use Rattle.std.specs.Prelude.{◌⊎◌}
use Rattle.fan_calls.specs.Statuses.{FAN_DEEP, FAN_FAULT, FAN_MEMORY, FAN_ROOM, number_of}
use Rattle.fan_calls.specs.declared.status.Status.{Status}
use Rattle.fan_calls.specs.declared.status.Status.TheVariants.{Ok, Fault, Room, Memory, Deep}
use Rattle.fanughespu.proofs.Reports.{no_report, not_refused}
use Rattle.fanughespu.proofs.certificate_reports.fan_certificate_report.Goals as goal

-- the number of a fault is that of no other status
is_fault : (s : Status) → to_z w32 (of_z w32 (number_of s)) ≡ FAN_FAULT → s ≡ Fault
is_fault Ok e = absurd cc
is_fault Fault e = refl
is_fault Room e = absurd cc
is_fault Memory e = absurd cc
is_fault Deep e = absurd cc

-- nor is that of no room
is_room : (s : Status) → to_z w32 (of_z w32 (number_of s)) ≡ FAN_ROOM → s ≡ Room
is_room Ok e = absurd cc
is_room Fault e = absurd cc
is_room Room e = refl
is_room Memory e = absurd cc
is_room Deep e = absurd cc

-- nor are those of no memory and of depth
is_memory : (s : Status) → to_z w32 (of_z w32 (number_of s)) ≡ FAN_MEMORY → s ≡ Memory
is_memory Ok e = absurd cc
is_memory Fault e = absurd cc
is_memory Room e = absurd cc
is_memory Memory e = refl
is_memory Deep e = absurd cc

is_deep : (s : Status) → to_z w32 (of_z w32 (number_of s)) ≡ FAN_DEEP → s ≡ Deep
is_deep Ok e = absurd cc
is_deep Fault e = absurd cc
is_deep Room e = absurd cc
is_deep Memory e = absurd cc
is_deep Deep e = refl

-- a report that is put has one of two statuses
put_has_memory : (s : Status) → (s ≡ Ok) ⊎ (s ≡ Room) → s ≡ Memory → ⊥
put_has_memory s (inl ok) memory = let e : Ok ≡ Memory = sym ok ∙ memory in cc
put_has_memory s (inr room) memory = let e : Room ≡ Memory = sym room ∙ memory in cc

put_is_shallow : (s : Status) → (s ≡ Ok) ⊎ (s ≡ Room) → s ≡ Deep → ⊥
put_is_shallow s (inl ok) deep = let e : Ok ≡ Deep = sym ok ∙ deep in cc
put_is_shallow s (inr room) deep = let e : Room ≡ Deep = sym room ∙ deep in cc

-- a message that is put has another status than that of depth
message_is_shallow : (s : Status) → (s ≡ Memory) ⊎ ((s ≡ Fault) ⊎ (s ≡ Room)) → s ≡ Deep → ⊥
message_is_shallow s (inl memory) deep = let e : Memory ≡ Deep = sym memory ∙ deep in cc
message_is_shallow s (inr (inl fault)) deep = let e : Fault ≡ Deep = sym fault ∙ deep in cc
message_is_shallow s (inr (inr room)) deep = let e : Room ≡ Deep = sym room ∙ deep in cc

pub returns-in-Err-clause-refused : goal.returns-in-Err-clause-refused
returns-in-Err-clause-refused c = λ is.
    c.put_message.ensures.message c.args.octets.now c.in-Err.ensures.refused (is_fault c.put_message.result (subst (λ (z : ℤ). to_z w32 (of_z w32 z) ≡ FAN_FAULT) c.number-in-Err.ensures is))

pub returns-in-Err-clause-no_room : goal.returns-in-Err-clause-no_room
returns-in-Err-clause-no_room c = λ is.
    c.put_message.ensures.no_room c.args.octets.now c.in-Err.ensures.refused (is_room c.put_message.result (subst (λ (z : ℤ). to_z w32 (of_z w32 z) ≡ FAN_ROOM) c.number-in-Err.ensures is))

pub returns-in-Ok-clause-no_certificate : goal.returns-in-Ok-clause-no_certificate
returns-in-Ok-clause-no_certificate c = λ none _. no_report c.args.octets.now c.in-Ok.report.items none c.in-Ok.ensures.report

pub returns-in-Err-clause-certificate : goal.returns-in-Err-clause-certificate
returns-in-Err-clause-certificate c = λ good fault. not_refused c.args.octets.now good (returns-in-Err-clause-refused c fault).is

pub returns-in-Ok-clause-fits : goal.returns-in-Ok-clause-fits
returns-in-Ok-clause-fits c = λ fits room.
    let no = c.put.ensures.no_room (is_room c.put.result (subst (λ (z : ℤ). to_z w32 (of_z w32 z) ≡ FAN_ROOM) c.number-in-Ok.ensures room)) in
    omega (arith, fits, no.few, no.size_is)

pub returns-in-Err-clause-fits : goal.returns-in-Err-clause-fits
returns-in-Err-clause-fits c = λ fits room.
    let no = returns-in-Err-clause-no_room c room in
    omega (arith, fits, no.no_room.few, no.no_room.size_is)

pub returns-in-Ok-clause-no_size : goal.returns-in-Ok-clause-no_size
returns-in-Ok-clause-no_size c = λ told. elim told [
  | inl memory ↦ absurd (put_has_memory c.put.result c.put.ensures.status
      (is_memory c.put.result (subst (λ (z : ℤ). to_z w32 (of_z w32 z) ≡ FAN_MEMORY) c.number-in-Ok.ensures memory)))
  | inr deep ↦ absurd (put_is_shallow c.put.result c.put.ensures.status
      (is_deep c.put.result (subst (λ (z : ℤ). to_z w32 (of_z w32 z) ≡ FAN_DEEP) c.number-in-Ok.ensures deep)))
]

pub returns-in-Err-clause-no_size : goal.returns-in-Err-clause-no_size
returns-in-Err-clause-no_size c = λ told. elim told [
  | inl memory ↦ c.put_message.ensures.no_size
      (is_memory c.put_message.result (subst (λ (z : ℤ). to_z w32 (of_z w32 z) ≡ FAN_MEMORY) c.number-in-Err.ensures memory))
  | inr deep ↦ absurd (message_is_shallow c.put_message.result c.put_message.ensures.statuses
      (is_deep c.put_message.result (subst (λ (z : ℤ). to_z w32 (of_z w32 z) ≡ FAN_DEEP) c.number-in-Err.ensures deep)))
]
