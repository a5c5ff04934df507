-- The meaning of a type to every codec.
use Rattle.std.specs.Prelude.{◌≡◌, ℕ, Bool, List}
use Rattle.asn1_tags.specs.declared.tags.Tag.{Tag}
use Rattle.asn1_tags.specs.Trees.{Tree}
use Rattle.asn1_model.specs.ConstraintSets.{ConstraintSet}
use Rattle.asn1_model.specs.Records.{Name, Record}
use Rattle.asn1_model.specs.Tags.{Tags, tree_tags, IsOneRecord}
use Rattle.asn1_model.specs.WellFormed.{AreWellFormed}

-- The meaning of a type with the values V.
pub record Meaning (V : Type 0) : Type 1 where
  -- the type's own tag, name and constraints
  pub tag : Tag
  pub name : Name
  pub constraints : ConstraintSet
  -- the tags with which a value can begin, where the type is written under a tag
  pub tree : Tag → Tree
  -- the type is a CHOICE
  pub is_choice : Bool
  -- whether the value is there, as each is but an option without one
  pub is_present : V → Bool
  -- the records of a value under a tag, constraints and a name
  pub records : V → Tag → ConstraintSet → Name → List Record
  -- what is read as a value under a tag and constraints: its own records under whatever name, and those that say the same to a
  -- reader, as with a default that is written, 0 bits behind named bits, or the components of a SET in another order
  pub IsReadAs : V → Tag → ConstraintSet → List Record → Type 0
  pub reads_own : (v : V) (t : Tag) (c : ConstraintSet) (n : Name) → IsReadAs v t c (records v t c n)
  -- each value is a single record. This holds of every type but an option, which may be absent, a type without any
  -- content, and a wrapper of one of these
  pub IsSingleRecord : Type 0
  -- the type can be written under this tag; where it has components or alternatives, these have distinct tags (X.680,
  -- 25.6, 27.3 and 29.3); and the types inside it are well tagged
  pub HasDistinctTags : Tag → Type 0
  -- the value meets its type's invariant, as every value of a program does: its numbers are within
  -- the limits of their types, its strings have the units of their kinds (a UTF8String the bytes of a text), its arrays
  -- are as long as they say
  pub IsOfType : V → Type 0
  -- the value is valid, which a writer has to ensure: each open type in it holds one value of the codec, by the codec's
  -- test of byte strings; and each group that is there writes a component
  pub IsValid : (List ℕ → Bool) → V → Type 0
  -- The law of types: where each value is a single record and the type's tags are distinct, that record is no presence mark,
  -- and begins with one of the type's tags.
  pub one_record : (v : V) (t : Tag) (c : ConstraintSet) (n : Name) →
      IsSingleRecord → HasDistinctTags t → IsOneRecord (tree_tags (tree t)) (records v t c n)
  -- The law of valid values: their records are well formed.
  pub well_formed : (accepts : List ℕ → Bool) (v : V) (t : Tag) (c : ConstraintSet) (n : Name) →
      IsValid accepts v → AreWellFormed accepts (records v t c n)

module _ {V : Type 0} (m : Meaning V) where
  -- the tags with which a value under the tag can begin
  abbrev pub tags : Tag → Tags
  tags t = tree_tags (m.tree t)

  -- the records of a value under the type's own tag, constraints and name
  abbrev pub own_records : V → List Record
  own_records v = m.records v m.tag m.constraints m.name

  -- what is read as a value under the type's own tag and constraints
  abbrev pub IsReadAsOwn : V → List Record → Type 0
  IsReadAsOwn v rs = m.IsReadAs v m.tag m.constraints rs

  pub own_is_read : (v : V) → IsReadAsOwn v (own_records v)
  own_is_read v = m.reads_own v m.tag m.constraints m.name

  -- these are the type's own tag, constraints and name
  abbrev pub HasOwn : Tag → ConstraintSet → Name → Type 0
  HasOwn t c n = (m.tag ≡ t) × (m.constraints ≡ c) × (m.name ≡ n)

  -- the type is well tagged under this tag: another type can hold it under that
  abbrev pub IsWellTaggedUnder : Tag → Type 0
  IsWellTaggedUnder t = m.IsSingleRecord × m.HasDistinctTags t

  -- the type is well tagged: another type can hold it under its own tag
  abbrev pub IsWellTagged : Type 0
  IsWellTagged = IsWellTaggedUnder m.tag
