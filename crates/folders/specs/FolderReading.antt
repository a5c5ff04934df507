-- Calls that read a `Folder`.
use Rattle.std.specs.Prelude.{Result}
use Rattle.asn1_circles.specs.Words.{DecodeError, Reader, ReadsAs, Tag, unconstrained}
use Rattle.folders.specs.FolderMeaning.{meaning}
use Rattle.folders.specs.contracts.folder.FolderPartialEq.TheImpl.{ghosts as equality}
use Rattle.folders.specs.declared.folder.Folder.{Folder as Knot}

-- A call that reads a value under this tag.
abbrev pub ReadsKnot : {D : Type 0} → Reader D → Tag → D → D → Result Knot DecodeError → Type 0
ReadsKnot R t old new result = ReadsAs R meaning equality.eq t unconstrained old new result
