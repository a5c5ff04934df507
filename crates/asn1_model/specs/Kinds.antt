-- The kinds of type, and what each of them means.
use Rattle.std.specs.Prelude.{◌≡◌, ℕ, ℤ, ◌<◌, ◌^◌, ⊤, Bool, true, false, is_some, IsTrue, List, [], ◌∷◌, length, Option, None, Some, IfSome, All, codes, refl, if◌then◌else◌}
use Rattle.std.specs.List.{flat_map}
use Rattle.std.specs.Str.{IsUtf8}
use Rattle.std.specs.Option.{option_map}
use Rattle.asn1_tags.specs.declared.tags.Tag.{Tag}
use Rattle.asn1_tags.specs.Tags.{tag_eq, distinct}
use Rattle.asn1_tags.specs.Trees.{Tree, Trees, leaf, choice, leaves}
use Rattle.asn1_values.specs.Bits.{EndsInOne, without_trailing_zeros}
use Rattle.asn1_ranges.specs.Members.{IsMember}
use Rattle.asn1_ranges.specs.declared.bounded.Bounded.{Bounded}
use Rattle.asn1_model.specs.ConstraintSets.{ConstraintSet, unconstrained, values_of, size_of}
use Rattle.asn1_model.specs.Records.{Name, Record, name_or, Content, Head, arcs, bits, in_root, number, null, units, utf8, scalar, discriminant, holding, sequence_of}
use Rattle.asn1_model.specs.RecordTables.{Label, Row, Table}
use Rattle.asn1_model.specs.Tags.{universal, CHOICE, Has, HasOwnTag, IsATag, first_tag, tree_tags}
use Rattle.asn1_model.specs.Composites.{option_records, choice_records}
use Rattle.asn1_model.specs.Meaning.{IsReadAsOwn, Meaning, own_is_read, own_records, IsWellTagged, IsWellTaggedUnder}
use Rattle.asn1_model.specs.Readings.{AreElementsRead, IsReadAsChoice, IsReadAsOption, IsReadInside, IsScalar, reads_own_choice, elements_read_own, reads_own_inside, reads_own_option}
use Rattle.asn1_model.specs.WellFormed.{AreWellFormed, well_formed_choice, well_formed_elements, well_formed_option, well_formed_scope}
use Rattle.asn1_model.specs.OneRecord.{scalar_is_one, scope_is_one, choice_is_one}

-- A type whose values are contents, each of them one record.
abbrev pub scalar_type : {V : Type 0} → Tag → ConstraintSet → Name → (V → Content) → Meaning V
scalar_type tag constraints name content = record {
  tag = tag;
  name = name;
  constraints = constraints;
  tree = leaf;
  is_choice = false;
  is_present = λ _. true;
  records = λ v t c n. scalar t c n (content v) ∷ [];
  IsReadAs = λ v t c. IsScalar t c (content v);
  reads_own = λ v t c n. (n, refl);
  IsSingleRecord = ⊤;
  HasDistinctTags = IsATag;
  IsOfType = λ _. ⊤;
  IsValid = λ _ _. ⊤;
  one_record = λ v t c n _ _. scalar_is_one t c n (content v);
  well_formed = λ accepts v t c n _. (tt, tt);
}

-- the type, whose values are written without constraints
abbrev pub without_constraints : {V : Type 0} → Meaning V → Meaning V
without_constraints m = record m {
  records = λ v t c n. m.records v t unconstrained n;
  IsReadAs = λ v t c. m.IsReadAs v t unconstrained;
  reads_own = λ v t c n. m.reads_own v t unconstrained n;
  one_record = λ v t c n. m.one_record v t unconstrained n;
  well_formed = λ accepts v t c n. m.well_formed accepts v t unconstrained n;
}

-- the type, whose values are written under its own name where no other is given
abbrev pub under_own_name : {V : Type 0} → Meaning V → Meaning V
under_own_name m = record m {
  records = λ v t c n. m.records v t c (name_or n m.name);
  reads_own = λ v t c n. m.reads_own v t c (name_or n m.name);
  one_record = λ v t c n. m.one_record v t c (name_or n m.name);
  well_formed = λ accepts v t c n. m.well_formed accepts v t c (name_or n m.name);
}

-- A kind of string (X.680, 22, 23 and 41), by its tag, its name, the units that a string can hold, and what these are to
-- a codec.
abbrev pub string_type : {U : Type 0} → Tag → List ℕ → (U → Type 0) → (List U → Content) → Meaning (List U)
string_type tag name IsUnit content =
    under_own_name (record (scalar_type tag unconstrained (Some name) content) { IsOfType = λ units. All IsUnit units })

-- A BIT STRING (X.680, 22) of any bits.
abbrev pub bit_string : Meaning (List Bool)
bit_string = string_type (universal 3) (codes "BIT_STRING") (λ _. ⊤) bits

-- A BIT STRING with named bits (22.7), of which the last is 1, if there is one, since 0 bits at the end mean nothing. With such bits it
-- is read as the same value (X.690, 8.6.2.4).
abbrev pub named_bit_string : Meaning (List Bool)
named_bit_string = record bit_string {
  IsReadAs = λ v t c rs. (list : List Bool) × (without_trailing_zeros list ≡ without_trailing_zeros v) × IsScalar t c (bits list) rs;
  reads_own = λ v t c n. (v, refl, (name_or n bit_string.name, refl));
  IsOfType = EndsInOne;
}

-- A UTF8String (X.680, 41), by its bytes, which are those of a text.
abbrev pub utf8_string : {V : Type 0} → (V → List ℕ) → Meaning V
utf8_string bytes = under_own_name (record (scalar_type (universal 12) unconstrained (Some (codes "UTF8String")) (λ v. units utf8 (bytes v))) {
  IsOfType = λ v. IsUtf8 (bytes v);
})

-- An OBJECT IDENTIFIER (X.680, 32), whose arcs have 32 bits.
abbrev pub object_identifier : Meaning (List ℕ)
object_identifier = without_constraints (string_type (universal 6) (codes "OBJECT_IDENTIFIER") (λ arc. arc < 2 ^ 32) arcs)

-- An INTEGER (X.680, 19 and 51.4) whose values are the members of a bound.
abbrev pub integer_type : {V : Type 0} → (V → ℤ) → Bounded ℤ → Meaning V
integer_type number_of bound = record (scalar_type (universal 2) (values_of bound) (Some (codes "INTEGER")) (λ v. number (number_of v))) {
  IsOfType = λ v. IsMember (λ n. n) bound (number_of v);
}

-- An INTEGER (X.680, 19) of any size.
abbrev pub unbounded_integer_type : Meaning ℤ
unbounded_integer_type = scalar_type (universal 2) unconstrained (Some (codes "INTEGER")) number

-- A type that holds a value of another and means the same.
abbrev pub wrapper_type : {V W : Type 0} → (W → V) → Meaning V → Meaning W
wrapper_type target m = record {
  tag = m.tag;
  name = m.name;
  constraints = m.constraints;
  tree = m.tree;
  is_choice = m.is_choice;
  is_present = λ w. m.is_present (target w);
  records = λ w. m.records (target w);
  IsReadAs = λ w. m.IsReadAs (target w);
  reads_own = λ w. m.reads_own (target w);
  IsSingleRecord = m.IsSingleRecord;
  HasDistinctTags = m.HasDistinctTags;
  IsOfType = λ w. m.IsOfType (target w);
  IsValid = λ accepts w. m.IsValid accepts (target w);
  one_record = λ w. m.one_record (target w);
  well_formed = λ accepts w. m.well_formed accepts (target w);
}

-- A component that may be absent (X.680, 25.1). It is no record of its own where it is absent, so it can be a
-- component alone.
abbrev pub option_type : {V : Type 0} → Meaning V → Meaning (Option V)
option_type m = record {
  tag = m.tag;
  name = m.name;
  constraints = m.constraints;
  tree = m.tree;
  is_choice = m.is_choice;
  is_present = λ o. is_some o;
  records = λ o t c n. option_records in_root t (option_map (λ v. m.records v t c n) o);
  IsReadAs = λ o t c. IsReadAsOption (λ v. m.IsReadAs v t c) in_root t o;
  reads_own = λ o t c n. reads_own_option (λ v. m.IsReadAs v t c) (λ v. m.records v t c n) (λ v. m.reads_own v t c n) in_root t o;
  IsSingleRecord = ⊥;
  HasDistinctTags = IsWellTaggedUnder m;
  IsOfType = λ o. IfSome o m.IsOfType;
  IsValid = λ accepts o. IfSome o (m.IsValid accepts);
  one_record = λ v t c n single _. absurd single;
  well_formed = λ accepts o t c n. well_formed_option accepts in_root t (m.IsValid accepts)
      (λ v. m.records v t c n) (λ v. m.well_formed accepts v t c n) o;
}

-- The contents of the values of a type that hold others: their records, and what is read as they are; whether their types are well
-- tagged, with distinct tags; whether a value's are of their types; and whether they are valid, when their records are well formed.
pub record Inside (V : Type 0) : Type 1 where
  pub records : V → List Record
  pub AreReadAs : V → List Record → Type 0
  pub read_own : (v : V) → AreReadAs v (records v)
  pub IsWellTagged : Type 0
  pub AreOfType : V → Type 0
  pub AreValid : (List ℕ → Bool) → V → Type 0
  pub well_formed : (accepts : List ℕ → Bool) (v : V) → AreValid accepts v → AreWellFormed accepts (records v)

-- A type whose value is one record that holds others: by the head of that record, which has the tag that the type is
-- written under, the type's tag, constraints and name, and what is inside.
abbrev pub scope_type : {V : Type 0} → (head : Tag → ConstraintSet → Name → Head) →
    ((t : Tag) (c : ConstraintSet) (n : Name) → HasOwnTag t (head t c n)) →
    Tag → ConstraintSet → Name → Inside V → Meaning V
scope_type head at tag constraints name inside = record {
  tag = tag;
  name = name;
  constraints = constraints;
  tree = leaf;
  is_choice = false;
  is_present = λ _. true;
  records = λ v t c n. holding (head t c n) (inside.records v) ∷ [];
  IsReadAs = λ v t c. IsReadInside inside.AreReadAs (head t c) v;
  reads_own = λ v t c n. reads_own_inside inside.AreReadAs inside.records inside.read_own (head t c) n v;
  IsSingleRecord = ⊤;
  HasDistinctTags = λ t. IsATag t × inside.IsWellTagged;
  IsOfType = inside.AreOfType;
  IsValid = inside.AreValid;
  one_record = λ v t c n _ _. scope_is_one t (head t c n) (inside.records v) (at t c n);
  well_formed = λ accepts v t c n valid.
      well_formed_scope accepts t (head t c n) (inside.records v) (at t c n) (inside.well_formed accepts v valid);
}

-- A type of elements of one type, by the head of its record, its tag, name and constraints.
abbrev pub elements_type : {V W : Type 0} → (head : Tag → ConstraintSet → Name → Head) →
    ((t : Tag) (c : ConstraintSet) (n : Name) → HasOwnTag t (head t c n)) →
    Tag → List ℕ → ConstraintSet → (W → List V) → Meaning V → Meaning W
elements_type head at tag name constraints elements m =
    under_own_name (scope_type head at tag constraints (Some name) (record {
      records = λ w. flat_map (own_records m) (elements w);
      AreReadAs = λ w. AreElementsRead (IsReadAsOwn m) (elements w);
      read_own = λ w. elements_read_own (IsReadAsOwn m) (own_records m) (own_is_read m) (elements w);
      IsWellTagged = IsWellTagged m;
      AreOfType = λ w. All m.IsOfType (elements w);
      AreValid = λ accepts w. All (m.IsValid accepts) (elements w);
      well_formed = λ accepts w. well_formed_elements accepts (m.IsValid accepts) (own_records m)
          (λ v. m.well_formed accepts v m.tag m.constraints m.name) (elements w);
    }))

-- A SEQUENCE OF (X.680, 26).
abbrev pub list_type : {V W : Type 0} → (W → List V) → ConstraintSet → Meaning V → Meaning W
list_type elements constraints =
    elements_type sequence_of (λ _ _ _. refl) (universal 16) (codes "SEQUENCE_OF") constraints elements

-- A SEQUENCE OF this many elements.
abbrev pub array_type : {V : Type 0} → ℕ → Meaning V → Meaning (List V)
array_type size m = record (list_type (λ elements. elements) (size_of size) m) {
  IsOfType = λ elements. (length elements ≡ size) × All m.IsOfType elements;
}

-- A type without any content, which can be in no other.
abbrev pub empty_type : {V : Type 0} → Meaning V
empty_type = record {
  tag = universal 5;
  name = None;
  constraints = unconstrained;
  tree = leaf;
  is_choice = false;
  is_present = λ _. true;
  records = λ _ _ _ _. [];
  IsReadAs = λ _ _ _ rs. rs ≡ [];
  reads_own = λ _ _ _ _. refl;
  IsSingleRecord = ⊥;
  HasDistinctTags = λ _. ⊥;
  IsOfType = λ _. ⊤;
  IsValid = λ _ _. ⊤;
  one_record = λ v t c n single _. absurd single;
  well_formed = λ _ _ _ _ _ _. tt;
}

-- The marker of a tag that X.680 assigns (8.4, table 1): a NULL under this tag.
abbrev pub marker_type : {V : Type 0} → Tag → Meaning V
marker_type tag = without_constraints (scalar_type tag unconstrained None (λ _. null))

-- An ENUMERATED (X.680, 20), by its tag, constraints and name, the labels of its items, and the number of each value.
abbrev pub enumerated_type : {V : Type 0} → Tag → ConstraintSet → Name → Table Label → (V → ℤ) →
    Meaning V
enumerated_type tag constraints name labels number_of =
    without_constraints (scalar_type tag constraints name (λ v. discriminant labels (number_of v)))

-- the tags with which a CHOICE can begin: those of its alternatives where it is untagged, else the tag alone (X.680, 29)
abbrev pub choice_tree : Tree → Tag → Tree
choice_tree alternatives t = if tag_eq t CHOICE then alternatives else leaf t

-- The alternatives of a CHOICE: their table and their trees. The chosen tag is the first tag of the contents of a value,
-- and one of theirs.
pub record Chosen {V : Type 0} (inside : Inside V) : Type 0 where
  pub table : Table Row
  pub alternatives : Trees
  pub among : inside.IsWellTagged → (v : V) →
      Has (tree_tags (choice alternatives)) (first_tag (inside.records v))

-- A CHOICE (X.680, 29), by its name and constraints, the chosen alternative, and the table of all. Untagged it begins
-- with the tag of the chosen one. It is well tagged where no tag is twice among its alternatives (29.3) and their types
-- are well tagged.
abbrev pub choice_type : {V : Type 0} → Name → ConstraintSet → (inside : Inside V) → Chosen inside → Meaning V
choice_type name constraints inside chosen = record {
  tag = CHOICE;
  name = name;
  constraints = constraints;
  tree = choice_tree (choice chosen.alternatives);
  is_choice = true;
  is_present = λ _. true;
  records = λ v. choice_records (first_tag (inside.records v)) chosen.table (inside.records v) constraints name;
  IsReadAs = λ v t c. IsReadAsChoice inside.AreReadAs chosen.table constraints t c v;
  reads_own = λ v t c n. reads_own_choice inside.AreReadAs inside.records inside.read_own chosen.table constraints name t c n v;
  IsSingleRecord = ⊤;
  HasDistinctTags = λ _. IsTrue (distinct (leaves (choice chosen.alternatives))) × inside.IsWellTagged;
  IsOfType = inside.AreOfType;
  IsValid = inside.AreValid;
  one_record = λ v t c n _ well. choice_is_one (choice chosen.alternatives)
      (first_tag (inside.records v)) chosen.table (inside.records v) constraints name
      (chosen.among well.1 v) t c n;
  well_formed = λ accepts v t c n valid. well_formed_choice accepts chosen.table (inside.records v)
      constraints name t c n (inside.well_formed accepts v valid);
}
