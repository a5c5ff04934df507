-- Types inside others, each under a tag (X.680, 31).
use Rattle.std.specs.Prelude.{ℕ, Bool, List, refl}
use Rattle.asn1_tags.specs.declared.tags.Tag.{Tag}
use Rattle.asn1_tags.specs.Trees.{Tree, leaf}
use Rattle.asn1_model.specs.Composites.{explicit_tag_records}
use Rattle.asn1_model.specs.Meaning.{IsReadAsOwn, Meaning, own_is_read, own_records, IsWellTagged, IsWellTaggedUnder}
use Rattle.asn1_model.specs.Readings.{IsReadInside, reads_own_inside}
use Rattle.asn1_model.specs.OneRecord.{scope_is_one}
use Rattle.asn1_model.specs.WellFormed.{AreWellFormed}
use Rattle.asn1_model.specs.Records.{Name, Record, explicit_tag}
use Rattle.asn1_model.specs.Tags.{IsATag, IsOneRecord, tree_tags}

-- A type as a component or an alternative has it.
pub record TaggedType (W : Type 0) : Type 1 where
  -- the tag under which a value is written
  pub tag : Tag
  -- the tags with which it can begin
  pub tree : Tree
  -- the records of a value, and what is read as it
  pub records : W → List Record
  pub IsReadAs : W → List Record → Type 0
  pub reads_own : (w : W) → IsReadAs w (records w)
  -- the type is well tagged
  pub IsWellTagged : Type 0
  -- whether a value meets the type's invariant, and whether it is valid
  pub IsOfType : W → Type 0
  pub IsValid : (List ℕ → Bool) → W → Type 0
  -- then each value is one record, which begins with one of the tags
  pub one_record : IsWellTagged → (w : W) → IsOneRecord (tree_tags tree) (records w)
  -- and the records of each valid value are well formed
  pub well_formed : (accepts : List ℕ → Bool) (w : W) →
      IsValid accepts w → AreWellFormed accepts (records w)

-- under a tag in the place of its own; a CHOICE is after it, as after an explicit tag (31.2.7 c)
abbrev pub tagged : {W : Type 0} → Tag → Meaning W → TaggedType W
tagged t m = record {
  tag = t;
  tree = m.tree t;
  records = λ w. m.records w t m.constraints m.name;
  IsReadAs = λ w. m.IsReadAs w t m.constraints;
  reads_own = λ w. m.reads_own w t m.constraints m.name;
  IsWellTagged = IsWellTaggedUnder m t;
  IsOfType = m.IsOfType;
  IsValid = m.IsValid;
  one_record = λ can w. m.one_record w t m.constraints m.name can.0 can.1;
  well_formed = λ accepts w. m.well_formed accepts w t m.constraints m.name;
}

-- under its own tag; a CHOICE is untagged there
abbrev pub untagged : {W : Type 0} → Meaning W → TaggedType W
untagged m = tagged m.tag m

-- after an explicit tag, which has a name
abbrev pub explicitly_tagged_as : {W : Type 0} → Name → Tag → Meaning W → TaggedType W
explicitly_tagged_as name t m = record {
  tag = t;
  tree = leaf t;
  records = λ w. explicit_tag_records t name (own_records m w);
  IsReadAs = IsReadInside (IsReadAsOwn m) (explicit_tag t);
  reads_own = reads_own_inside (IsReadAsOwn m) (own_records m) (own_is_read m) (explicit_tag t) name;
  IsWellTagged = IsATag t × IsWellTagged m;
  IsOfType = m.IsOfType;
  IsValid = m.IsValid;
  one_record = λ _ w. scope_is_one t (explicit_tag t name) (own_records m w) refl;
  well_formed = λ accepts w valid. ((tt, m.well_formed accepts w m.tag m.constraints m.name valid), tt);
}

-- after an explicit tag, which has the type's name
abbrev pub explicitly_tagged : {W : Type 0} → Tag → Meaning W → TaggedType W
explicitly_tagged t m = explicitly_tagged_as m.name t m
