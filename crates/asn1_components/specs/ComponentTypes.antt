-- The components of a SEQUENCE, a SET or a group, one by one (X.680, 25.1).
use Rattle.std.specs.Prelude.{◌≡◌, ◌⊎◌, ℕ, Bool, true, false, IsTrue, List, Option, None, Some, IfSome, refl}
use Rattle.std.proofs.Common.{inl, inr}
use Rattle.std.specs.Option.{option_map}
use Rattle.asn1_tags.specs.declared.tags.Tag.{Tag}
use Rattle.asn1_tags.specs.Trees.{Tree, Trees, more, none}
use Rattle.asn1_model.specs.Composites.{option_records, default_records}
use Rattle.asn1_model.specs.Records.{Record, Side, in_additions, in_root, presence_marks_alone}
use Rattle.asn1_model.specs.Readings.{IsReadAsDefault, IsReadAsOption, reads_own_default, reads_own_option}
use Rattle.asn1_model.specs.WellFormed.{AreWellFormed, well_formed_option}
use Rattle.asn1_model.specs.TaggedTypes.{TaggedType}
use Rattle.asn1_model.specs.Tags.{BeginsWithin, tree_tags}
use Rattle.asn1_model.proofs.FirstTags.{one_begins, present_begins}
use Rattle.asn1_fields.specs.FieldViews.{may_be_absent}
use Rattle.asn1_fields.specs.declared.presence.FieldPresence.{FieldPresence}
use Rattle.asn1_fields.specs.declared.presence.FieldPresence.TheVariants.{Required, Optional, Default}

-- The records can be those of a component: they begin with one of its tags, or they are presence marks alone and the
-- component may be absent.
abbrev pub Fits : FieldPresence → Tree → List Record → Type 0
Fits presence tree rs = BeginsWithin (tree_tags tree) rs ⊎ (IsTrue (may_be_absent presence) × (presence_marks_alone rs ≡ true))

-- A component of the values V.
pub record ComponentType (V : Type 0) : Type 1 where
  pub name : List ℕ
  -- it can be on this side of its definition, as its presence marks say
  pub CanBeOn : Side → Type 0
  pub presence : FieldPresence
  -- the tag under which it is written, and the tags with which it can begin
  pub tag : Tag
  pub tree : Tree
  -- the trees of what is a record of its own in a SET: the tree, or those of a group's components
  pub parts : Trees
  -- its records, and what is read as it
  pub records : V → List Record
  pub IsReadAs : V → List Record → Type 0
  pub reads_own : (v : V) → IsReadAs v (records v)
  -- its type is well tagged under this tag
  pub IsWellTagged : Type 0
  -- whether it meets its type's invariant, and whether it is valid
  pub IsOfType : V → Type 0
  pub IsValid : (List ℕ → Bool) → V → Type 0
  -- its records begin with one of its tags, or it is absent
  pub fits : IsWellTagged → (v : V) → Fits presence tree (records v)
  -- and its records in a valid value are well formed
  pub well_formed : (accepts : List ℕ → Bool) (v : V) → IsValid accepts v → AreWellFormed accepts (records v)

-- one that is always there
abbrev pub required : {V W : Type 0} → List ℕ → (V → W) → TaggedType W → ComponentType V
required name get type = record {
  name = name;
  CanBeOn = λ side. side ≡ in_root;
  presence = Required;
  tag = type.tag;
  tree = type.tree;
  parts = more type.tree none;
  records = λ v. type.records (get v);
  IsReadAs = λ v. type.IsReadAs (get v);
  reads_own = λ v. type.reads_own (get v);
  IsWellTagged = type.IsWellTagged;
  IsOfType = λ v. type.IsOfType (get v);
  IsValid = λ accepts v. type.IsValid accepts (get v);
  fits = λ can v. inl (one_begins (tree_tags type.tree) (type.records (get v)) (type.one_record can (get v)));
  well_formed = λ accepts v. type.well_formed accepts (get v);
}

pub present_or_absent : {W : Type 0} (side : Side) (type : TaggedType W)
    (presence : FieldPresence) → Fits presence type.tree (option_records side type.tag None) →
    type.IsWellTagged → (o : Option W) → Fits presence type.tree (option_records side type.tag
    (option_map type.records o))
present_or_absent side type presence absent can None = absent
present_or_absent side type presence absent can (Some w) = inl
    (present_begins (tree_tags type.tree) side type.tag (type.records w) (type.one_record can w))

-- one that is marked OPTIONAL, on this side
abbrev pub optional_in : {V W : Type 0} → Side → List ℕ → (V → Option W) → TaggedType W →
    ComponentType V
optional_in side name get type = record {
  name = name;
  CanBeOn = λ other. other ≡ side;
  presence = Optional;
  tag = type.tag;
  tree = type.tree;
  parts = more type.tree none;
  records = λ v. option_records side type.tag (option_map type.records (get v));
  IsReadAs = λ v. IsReadAsOption type.IsReadAs side type.tag (get v);
  reads_own = λ v. reads_own_option type.IsReadAs type.records type.reads_own side type.tag (get v);
  IsWellTagged = type.IsWellTagged;
  IsOfType = λ v. IfSome (get v) type.IsOfType;
  IsValid = λ accepts v. IfSome (get v) (type.IsValid accepts);
  fits = λ can v. present_or_absent side type Optional (inr (refl, refl)) can (get v);
  well_formed = λ accepts v. well_formed_option accepts side type.tag (type.IsValid accepts) type.records
      (type.well_formed accepts) (get v);
}

-- one of the root
abbrev pub optional : {V W : Type 0} → List ℕ → (V → Option W) → TaggedType W → ComponentType V
optional = optional_in in_root

-- an addition (X.680, 25.1): it may be absent at will, since the sender may know an earlier version of the type
abbrev pub addition : {V W : Type 0} → List ℕ → (V → Option W) → TaggedType W → ComponentType V
addition = optional_in in_additions

pub other_than_default : {W : Type 0} (side : Side) (type : TaggedType W) → type.IsWellTagged →
    (w : W) (is_default : Bool) →
    Fits Default type.tree (default_records side is_default type.tag (type.records w))
other_than_default side type can w true = inr (refl, refl)
other_than_default side type can w false = present_or_absent side type Default (inr (refl, refl))
    can (Some w)

-- its records are well formed where what is written is valid
pub well_formed_default : {W : Type 0} (side : Side) (type : TaggedType W) (accepts : List ℕ → Bool) (w : W)
    (is_default : Bool) → (is_default ≡ false → type.IsValid accepts w) →
    AreWellFormed accepts (default_records side is_default type.tag (type.records w))
well_formed_default side type accepts w true valid = (tt, tt)
well_formed_default side type accepts w false valid = (tt, type.well_formed accepts w (valid refl))

-- one with a DEFAULT, on this side: whether the value equals it. A default is not written, so it has no records
-- and no premise.
abbrev pub default_in : {V W : Type 0} → Side → List ℕ → (V → W) → (V → Bool) → TaggedType W →
    ComponentType V
default_in side name get is_default type = record {
  name = name;
  CanBeOn = λ other. other ≡ side;
  presence = Default;
  tag = type.tag;
  tree = type.tree;
  parts = more type.tree none;
  records = λ v. default_records side (is_default v) type.tag (type.records (get v));
  IsReadAs = λ v. IsReadAsDefault type.IsReadAs side type.tag (is_default v) (get v);
  reads_own = λ v. reads_own_default type.IsReadAs type.records type.reads_own side type.tag (is_default v) (get v);
  IsWellTagged = type.IsWellTagged;
  IsOfType = λ v. is_default v ≡ false → type.IsOfType (get v);
  IsValid = λ accepts v. is_default v ≡ false → type.IsValid accepts (get v);
  fits = λ can v. other_than_default side type can (get v) (is_default v);
  well_formed = λ accepts v. well_formed_default side type accepts (get v) (is_default v);
}

-- one of the root, and an addition: a value has the default if it has what is equal to it
abbrev pub with_default : {V W : Type 0} → List ℕ → (V → W) → W → TaggedType W → (W → W → Bool) →
    ComponentType V
with_default name get default_value type eq = default_in in_root name get (λ v. eq (get v) default_value) type

abbrev pub addition_with_default : {V W : Type 0} → List ℕ → (V → W) → W → TaggedType W → (W → W → Bool) →
    ComponentType V
addition_with_default name get default_value type eq = default_in in_additions name get (λ v. eq (get v) default_value) type
