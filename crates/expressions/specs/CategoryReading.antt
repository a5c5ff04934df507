-- Calls that read a `Category`.
use Rattle.std.specs.Prelude.{Result}
use Rattle.asn1_circles.specs.Words.{DecodeError, Reader, ReadsAs, Tag, unconstrained}
use Rattle.expressions.specs.CategoryMeaning.{meaning}
use Rattle.expressions.specs.contracts.category.CategoryPartialEq.TheImpl.{ghosts as equality}
use Rattle.expressions.specs.declared.category.Category.{Category as Knot}

-- A call that reads a value under this tag.
abbrev pub ReadsKnot : {D : Type 0} → Reader D → Tag → D → D → Result Knot DecodeError → Type 0
ReadsKnot R t old new result = ReadsAs R meaning equality.eq t unconstrained old new result
