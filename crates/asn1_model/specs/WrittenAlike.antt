-- Types whose equal values are written alike.
use Rattle.std.specs.Prelude.{◌≡◌, Bool, true, List}
use Rattle.asn1_tags.specs.declared.tags.Tag.{Tag}
use Rattle.asn1_model.specs.ConstraintSets.{ConstraintSet}
use Rattle.asn1_model.specs.Meaning.{Meaning}
use Rattle.asn1_model.specs.Orders.{SameRecords}
use Rattle.asn1_model.specs.Records.{Name, Record}
use Rattle.asn1_model.specs.TaggedTypes.{TaggedType}

-- Equal values, by their records, have the same ones up to the order inside sets.
abbrev pub HaveSameRecords : {V : Type 0} → (V → V → Bool) → (V → List Record) → Type 0
HaveSameRecords {V = V} eq records = (v w : V) → eq v w ≡ true → SameRecords (records v) (records w)

-- Equal values of the type do, under each tag under which the type is well tagged, each constraint and name.
abbrev pub AreWrittenAlike : {V : Type 0} → Meaning V → (V → V → Bool) → Type 0
AreWrittenAlike m eq =
    (t : Tag) (c : ConstraintSet) (n : Name) → m.HasDistinctTags t → HaveSameRecords eq (λ v. m.records v t c n)

-- The same of a type as a component or an alternative has it.
abbrev pub AreAlikeInside : {W : Type 0} → TaggedType W → (W → W → Bool) → Type 0
AreAlikeInside type eq = type.IsWellTagged → HaveSameRecords eq type.records
