-- The case and the contents of an error.
use Rattle.std.specs.Prelude.{ℕ, Bool, true, false, List}
use Rattle.asn1_tags.specs.declared.tags.Tag.{Tag}
use Rattle.asn1_laws.specs.declared.needed.Needed.{Needed}
use Rattle.asn1_laws.specs.declared.decode_error.DecodeError.{DecodeError}
use Rattle.asn1_laws.specs.declared.decode_error.DecodeError.TheVariants.{Custom, Incomplete, ExceedsMaxLength, MissingField, NoValidChoice, FieldError, DuplicateField, UnknownField, IncorrectItemNumber, Memory, Depth, Failed, OutOfRange}

-- An error, apart from where its texts lie in memory.
pub data Reason : Type 0 where
  custom : List ℕ → Reason
  incomplete : Needed → Reason
  too_long : ℕ → Reason
  missing_field : List ℕ → Reason
  no_valid_choice : List ℕ → Reason
  field_error : List ℕ → ℕ → Reason
  duplicate_field : List ℕ → Reason
  unknown_field : ℕ → Tag → Reason
  wrong_number_of_items : ℕ → ℕ → Reason
  no_memory : Reason
  too_deep : Reason
  has_failed : Reason
  out_of_range : Reason

-- what the error says
abbrev pub reason : DecodeError → Reason
reason (Custom message) = custom message.now
reason (Incomplete needed) = incomplete needed
reason (ExceedsMaxLength length) = too_long length
reason (MissingField name) = missing_field name.now
reason (NoValidChoice name) = no_valid_choice name.now
reason (FieldError name cause) = field_error name.now cause
reason (DuplicateField name) = duplicate_field name.now
reason (UnknownField index tag) = unknown_field index tag
reason (IncorrectItemNumber expected actual) = wrong_number_of_items expected actual
reason Memory = no_memory
reason Depth = too_deep
reason Failed = has_failed
reason OutOfRange = out_of_range

-- The number of a reason: its index above, from 1.
abbrev pub number : Reason → ℕ
number (custom message) = 1
number (incomplete needed) = 2
number (too_long length) = 3
number (missing_field name) = 4
number (no_valid_choice name) = 5
number (field_error name cause) = 6
number (duplicate_field name) = 7
number (unknown_field index tag) = 8
number (wrong_number_of_items expected actual) = 9
number no_memory = 10
number too_deep = 11
number has_failed = 12
number out_of_range = 13

-- Whether the error is about a component that was read, and does not name it. The others name a
-- component, or they are about the decoder or the input as a whole: more input is needed, memory
-- ran out, no depth is left, or the decoder has failed before.
abbrev pub lacks_name : Reason → Bool
lacks_name (custom message) = true
lacks_name (incomplete needed) = false
lacks_name (too_long length) = true
lacks_name (missing_field name) = false
lacks_name (no_valid_choice name) = true
lacks_name (field_error name cause) = false
lacks_name (duplicate_field name) = false
lacks_name (unknown_field index tag) = true
lacks_name (wrong_number_of_items expected actual) = true
lacks_name no_memory = false
lacks_name too_deep = false
lacks_name has_failed = false
lacks_name out_of_range = true
