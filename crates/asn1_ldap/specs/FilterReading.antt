-- Calls that read a `Filter`.
use Rattle.std.specs.Prelude.{Result}
use Rattle.asn1_circles.specs.Words.{DecodeError, Reader, ReadsAs, Tag, unconstrained}
use Rattle.asn1_ldap.specs.FilterMeaning.{meaning}
use Rattle.asn1_ldap.specs.contracts.filter.FilterPartialEq.TheImpl.{ghosts as equality}
use Rattle.asn1_ldap.specs.declared.filter.Filter.{Filter as Knot}

-- A call that reads a value under this tag.
abbrev pub ReadsKnot : {D : Type 0} → Reader D → Tag → D → D → Result Knot DecodeError → Type 0
ReadsKnot R t old new result = ReadsAs R meaning equality.eq t unconstrained old new result
