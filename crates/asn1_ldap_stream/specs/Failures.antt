-- The statuses of failures, and those that say nothing of a stream.
use Rattle.std.specs.Prelude.{ℕ, ⊤}
use Rattle.asn1_ldap_stream.specs.declared.failure.Failure.{Failure}
use Rattle.asn1_ldap_stream.specs.declared.failure.Failure.TheVariants.{Damaged, CutOff, Reading, Writing, Memory}

-- 1 if something in the input is no message, or the input ends inside one, and else 2
abbrev pub status_of : Failure → ℕ
status_of (Damaged at error) = 1
status_of (CutOff at size) = 1
status_of Reading = 2
status_of Writing = 2
status_of Memory = 2

-- a failure that comes from outside the stream
abbrev pub IsOutside : Failure → Type 0
IsOutside (Damaged at error) = ⊥
IsOutside (CutOff at size) = ⊥
IsOutside Reading = ⊤
IsOutside Writing = ⊤
IsOutside Memory = ⊤
