-- When a part of a text is refused.
use Rattle.std.specs.Prelude.{⊤, Result, Ok, Err}
use Rattle.asn1_buffers.specs.declared.error.WriteError.{WriteError}
use Rattle.asn1_buffers.specs.declared.error.WriteError.TheVariants.{Memory, Rejected}

-- The notation refused the value, and memory did not run out.
abbrev pub IsRefusal : WriteError → Type 0
IsRefusal Memory = ⊥
IsRefusal (Rejected message) = ⊤

-- A call that fails only if memory ran out, or if this is so.
abbrev pub MayFail : Type 0 → {A : Type 0} → Result A WriteError → Type 0
MayFail IsSo (Ok x) = ⊤
MayFail IsSo (Err e) = IsRefusal e → IsSo
