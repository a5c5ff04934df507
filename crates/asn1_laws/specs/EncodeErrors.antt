-- The case and the message of an error.
use Rattle.std.specs.Prelude.{ℕ, List}
use Rattle.asn1_laws.specs.declared.encode_error.EncodeError.{EncodeError}
use Rattle.asn1_laws.specs.declared.encode_error.EncodeError.TheVariants.{Memory, Depth, Failed, Custom}

-- An error, apart from where its message lies in memory.
pub data Reason : Type 0 where
  no_memory : Reason
  too_deep : Reason
  has_failed : Reason
  rejected : List ℕ → Reason

-- what the error says
abbrev pub reason : EncodeError → Reason
reason Memory = no_memory
reason Depth = too_deep
reason Failed = has_failed
reason (Custom message) = rejected message.now
