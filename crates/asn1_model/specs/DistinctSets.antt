-- The components of each SET in a record have distinct tags (X.680, 27.3).
use Rattle.std.specs.Prelude.{⊤, List}
use Rattle.asn1_tags.specs.declared.tags.Tag.{Tag}
use Rattle.asn1_model.specs.ConstraintSets.{ConstraintSet}
use Rattle.asn1_model.specs.Meaning.{Meaning}
use Rattle.asn1_model.specs.Records.{Head, Name, Record, Records, scalar, scope, open_type, presence_mark, held, none, more, set}
use Rattle.asn1_model.specs.TaggedTypes.{TaggedType}
use Rattle.asn1_model.specs.Tags.{ShareNone, record_tags}

-- The record begins with no tag with which one of these can begin.
abbrev pub SharesNoTag : Record → Records → Type 0
SharesNoTag r none = ⊤
SharesNoTag r (more s rs) = ShareNone (record_tags r) (record_tags s) × SharesNoTag r rs

-- No two of the records can begin with one tag.
abbrev pub HaveDistinctTags : Records → Type 0
HaveDistinctTags none = ⊤
HaveDistinctTags (more r rs) = SharesNoTag r rs × HaveDistinctTags rs

-- The components of a SET have distinct tags.
abbrev pub AreDistinctIn : Head → Records → Type 0
AreDistinctIn (set t table n) rs = HaveDistinctTags rs
AreDistinctIn _ rs = ⊤

-- In each SET, at every depth, the components have distinct tags.
abbrev mutual
  pub HasDistinctSets : Record → Type 0
  HasDistinctSets (scalar t c n x) = ⊤
  HasDistinctSets (scope h rs) = AreDistinctIn h rs × HaveDistinctSets rs
  HasDistinctSets (open_type n own) = ⊤
  HasDistinctSets (presence_mark m) = ⊤

  pub HaveDistinctSets : Records → Type 0
  HaveDistinctSets none = ⊤
  HaveDistinctSets (more r rs) = HasDistinctSets r × HaveDistinctSets rs

-- So it is in the records of a list, in those of each value of a well-tagged type, and of a type as a component has it.
abbrev pub AreDistinct : List Record → Type 0
AreDistinct rs = HaveDistinctSets (held rs)

abbrev pub SetsAreDistinct : {V : Type 0} → Meaning V → Type 0
SetsAreDistinct {V = V} m = (t : Tag) (c : ConstraintSet) (n : Name) → m.HasDistinctTags t → (v : V) → AreDistinct (m.records v t c n)

abbrev pub SetsAreDistinctInside : {W : Type 0} → TaggedType W → Type 0
SetsAreDistinctInside {W = W} type = type.IsWellTagged → (w : W) → AreDistinct (type.records w)
