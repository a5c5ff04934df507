-- The records that are read as a value, by those that are read as its parts.
use Rattle.std.specs.Prelude.{◌≡◌, ◌⊎◌, ℕ, Bool, true, false, List, [], ◌∷◌, ◌++◌, Option, None, Some, refl, if◌then◌else◌}
use Rattle.std.proofs.Common.{inl, inr}
use Rattle.std.specs.List.{flat_map}
use Rattle.std.specs.Option.{option_map}
use Rattle.asn1_model.specs.Composites.{alternative_records, choice_records, default_records, explicit_tag_records, option_records}
use Rattle.asn1_model.specs.ConstraintSets.{ConstraintSet}
use Rattle.asn1_model.specs.Records.{Content, Head, Name, Record, Side, absent, holding, name_or, open_type, presence_mark, present, scalar}
use Rattle.asn1_model.specs.RecordTables.{Row, Table}
use Rattle.asn1_model.specs.Tags.{CHOICE, Has, first_tag, first_tags}
use Rattle.asn1_tags.specs.Tags.{tag_eq}
use Rattle.asn1_tags.specs.declared.tags.Tag.{Tag}

-- The lists of records that are read as a value of V, each value's own among them.
abbrev pub Reading : Type 0 → Type 1
Reading V = V → List Record → Type 0

-- One record has this content, under a tag and constraints, whatever its name.
abbrev pub IsScalar : Tag → ConstraintSet → Content → List Record → Type 0
IsScalar t c x rs = (n : Name) × (rs ≡ scalar t c n x ∷ [])

-- One record has these bytes, which are those of an open type, whatever its name.
abbrev pub IsOpenType : List ℕ → List Record → Type 0
IsOpenType bytes rs = (n : Name) × (rs ≡ open_type n bytes ∷ [])

-- Records are read as a value after an explicit tag, of whatever name (31.2.7).
abbrev pub IsReadAfterTag : {V : Type 0} → Tag → Reading V → Reading V
IsReadAfterTag t IsReadAs v rs = (n : Name) × (inside : List Record) × IsReadAs v inside × (rs ≡ explicit_tag_records t n inside)

module _ {V : Type 0} (IsReadAs : Reading V) where
  -- Records are read as a component that may be absent (X.680, 25.1): the presence mark that says so; or the mark that says that it is
  -- there, and then what is read as its value.
  abbrev pub IsReadAsOption : Side → Tag → Reading (Option V)
  IsReadAsOption side t None rs = rs ≡ presence_mark (absent side t) ∷ []
  IsReadAsOption side t (Some v) rs = (own : List Record) × IsReadAs v own × (rs ≡ presence_mark (present side t) ∷ own)

  -- Records are read as a component with a default (25.1): absent, it has the default; one that is there may have it too, as BER lets
  -- a sender write it (X.690, 8.9.3).
  abbrev pub IsReadAsDefault : Side → Tag → (is_default : Bool) → Reading V
  IsReadAsDefault side t is_default v rs =
      ((is_default ≡ true) × (rs ≡ presence_mark (absent side t) ∷ [])) ⊎ IsReadAsOption side t (Some v) rs

  -- Records are read as these values, one after another.
  abbrev pub AreElementsRead : Reading (List V)
  AreElementsRead [] rs = rs ≡ []
  AreElementsRead (v ∷ vs) rs =
      (first : List Record) × (later : List Record) × IsReadAs v first × AreElementsRead vs later × (rs ≡ first ++ later)

  -- One record of this head, under whatever name, holds what is read as the value.
  abbrev pub IsReadInside : (Name → Head) → Reading V
  IsReadInside head v rs = (n : Name) × (items : List Record) × IsReadAs v items × (rs ≡ holding (head n) items ∷ [])

  -- The alternative of a CHOICE, of whatever name: it holds what is read as the value, under a tag with which that begins (29).
  abbrev pub IsReadAsAlternative : Table Row → ConstraintSet → Reading V
  IsReadAsAlternative table c v rs =
      (n : Name) × (chosen : Tag) × (items : List Record) × IsReadAs v items ×
      ((chosen ≡ first_tag items) ⊎ Has (first_tags items) chosen) × (rs ≡ alternative_records chosen c table n items)

  -- A CHOICE is its alternative where it is untagged; else that after an explicit tag, with its own constraints (31.2.7 c).
  abbrev pub IsReadIfUntagged : (untagged : Bool) → Table Row → ConstraintSet → Tag → ConstraintSet → Reading V
  IsReadIfUntagged true table own_constraints t c = IsReadAsAlternative table c
  IsReadIfUntagged false table own_constraints t c = IsReadAfterTag t (IsReadAsAlternative table own_constraints)

  abbrev pub IsReadAsChoice : Table Row → ConstraintSet → Tag → ConstraintSet → Reading V
  IsReadAsChoice table own_constraints t = IsReadIfUntagged (tag_eq t CHOICE) table own_constraints t

  -- Each value's own records are read as it, where those of its parts are.
  module _ (records : V → List Record) (own : (v : V) → IsReadAs v (records v)) where
    pub reads_own_option : (side : Side) (t : Tag) (o : Option V) → IsReadAsOption side t o (option_records side t (option_map records o))
    reads_own_option side t None = refl
    reads_own_option side t (Some v) = (records v, own v, refl)

    pub reads_own_default : (side : Side) (t : Tag) (is_default : Bool) (v : V) → IsReadAsDefault side t is_default v (default_records side is_default t (records v))
    reads_own_default side t true v = inl (refl, refl)
    reads_own_default side t false v = inr (records v, own v, refl)

    pub elements_read_own : (vs : List V) → AreElementsRead vs (flat_map records vs)
    elements_read_own [] = refl
    elements_read_own (v ∷ vs) = (records v, flat_map records vs, own v, elements_read_own vs, refl)

    pub reads_own_inside : (head : Name → Head) (n : Name) (v : V) → IsReadInside head v (holding (head n) (records v) ∷ [])
    reads_own_inside head n v = (n, records v, own v, refl)

    pub reads_own_alternative : (table : Table Row) (c : ConstraintSet) (n : Name) (v : V) →
        IsReadAsAlternative table c v (alternative_records (first_tag (records v)) c table n (records v))
    reads_own_alternative table c n v = (n, first_tag (records v), records v, own v, inl refl, refl)

    pub reads_own_choice : (table : Table Row) (own_constraints : ConstraintSet) (own_name : Name) (t : Tag) (c : ConstraintSet) (n : Name) (v : V) →
        IsReadAsChoice table own_constraints t c v (choice_records (first_tag (records v)) table (records v) own_constraints own_name t c n)
    reads_own_choice table own_constraints own_name t c n v = by_tag (tag_eq t CHOICE)
      where
        by_tag : (untagged : Bool) → IsReadIfUntagged untagged table own_constraints t c v
            (if untagged
            then alternative_records (first_tag (records v)) c table (name_or n own_name) (records v)
            else explicit_tag_records t (name_or n own_name) (alternative_records (first_tag (records v)) own_constraints table own_name (records v)))
        by_tag true = reads_own_alternative table c (name_or n own_name) v
        by_tag false = (name_or n own_name, alternative_records (first_tag (records v)) own_constraints table own_name (records v), reads_own_alternative table own_constraints own_name v, refl)
