-- The components of a SEQUENCE, a SET or a group, each written once: the records of a value, the rows of the field table,
-- whether the tags are distinct, and which values are valid follow from them.
use Rattle.std.specs.Prelude.{◌≡◌, ◌↔◌, ℕ, ⊤, Bool, true, false, List, [], ◌∷◌, ◌++◌, drop, length, map, take, Option, None, Some, refl, if◌then◌else◌}
use Rattle.std.proofs.lemmas.List.Sorted.{IsPermutation-refl}
use Rattle.asn1_tags.specs.declared.tags.Tag.{Tag}
use Rattle.asn1_tags.specs.Trees.{leaf}
use Rattle.asn1_model.specs.ConstraintSets.{ConstraintSet, unconstrained}
use Rattle.asn1_model.specs.Kinds.{Inside, scope_type}
use Rattle.asn1_model.specs.Meaning.{Meaning}
use Rattle.asn1_model.specs.Readings.{IsReadInside}
use Rattle.asn1_model.specs.Records.{Name, Record, Head, in_additions, in_root, sequence as sequence_head, set as set_head, holding, unmarked}
use Rattle.asn1_model.specs.RecordTables.{Row, Table, no_table}
use Rattle.asn1_model.specs.Tags.{IsATag, HasOwnTag, universal}
use Rattle.asn1_fields.specs.CanonicalOrder.{in_order}
use Rattle.asn1_fields.specs.FieldViews.{FieldView, component_of, row_of}
use Rattle.asn1_components.specs.ComponentLists.{AreReadInAnyOrder, AreReadInTurn, all_read_own, all_records, views_from, EachIsWellTagged, EachCanBeOn, EachMayBeAbsent, EachIsOfType, EachIsValid, all_well_formed, AreDistinctInSequence, AreDistinctInSet, CanBeInSequence, group_fits, group_of}
use Rattle.asn1_components.specs.ComponentTypes.{ComponentType}

-- A SEQUENCE (X.680, 25) or a SET (27); a group is a SEQUENCE here.
pub data Kind : Type 0 where
  is_sequence : Kind
  is_set : Kind

-- Whether there is an extension marker, and the additions after it (X.680, 25.1).
pub data Extension (V : Type 0) : Type 1 where
  no_marker : Extension V
  marker : List (ComponentType V) → Extension V

-- The components, in the order of their definition: those of the root, and then the additions.
pub record Components (V : Type 0) : Type 1 where
  pub kind : Kind
  pub root : List (ComponentType V)
  pub extension : Extension V

-- without an extension marker
abbrev pub sequence : {V : Type 0} → List (ComponentType V) → Components V
sequence root = record { kind = is_sequence; root = root; extension = no_marker }

abbrev pub set : {V : Type 0} → List (ComponentType V) → Components V
set root = record { kind = is_set; root = root; extension = no_marker }

-- with an extension marker
abbrev pub extensible_sequence : {V : Type 0} → List (ComponentType V) → List (ComponentType V) → Components V
extensible_sequence root additions = record { kind = is_sequence; root = root; extension = marker additions }

abbrev pub extensible_set : {V : Type 0} → List (ComponentType V) → List (ComponentType V) → Components V
extensible_set root additions = record { kind = is_set; root = root; extension = marker additions }

-- the field, at its index among fields in canonical order
abbrev pub insert_in_order : FieldView → List FieldView → List FieldView
insert_in_order e [] = e ∷ []
insert_in_order e (f ∷ fs) = if in_order (component_of e) (component_of f) then e ∷ f ∷ fs else f ∷ insert_in_order e fs

-- the fields in canonical order: by the smallest tag of each (X.680, 8.6)
abbrev pub in_canonical_order : List FieldView → List FieldView
in_canonical_order [] = []
in_canonical_order (e ∷ es) = insert_in_order e (in_canonical_order es)

-- the table of the root: of a SEQUENCE in the order of the definition, of a SET in canonical order
abbrev pub table_of_kind : Kind → List FieldView → List FieldView
table_of_kind is_sequence es = es
table_of_kind is_set es = in_canonical_order es

-- all tags that must be distinct are: as in a SEQUENCE, or as in a SET
abbrev pub AreDistinctIn : {V : Type 0} → Kind → List (ComponentType V) → Type 0
AreDistinctIn is_sequence cs = AreDistinctInSequence cs
AreDistinctIn is_set cs = AreDistinctInSet cs

-- records are read as the components of this kind
abbrev pub AreReadInKind : {V : Type 0} → Kind → List (ComponentType V) → V → List Record → Type 0
AreReadInKind is_sequence cs = AreReadInTurn cs
AreReadInKind is_set cs = AreReadInAnyOrder cs

pub kind_reads_own : {V : Type 0} (kind : Kind) (cs : List (ComponentType V)) (v : V) → AreReadInKind kind cs v (all_records cs v)
kind_reads_own is_sequence cs v = all_read_own cs v
kind_reads_own is_set cs v = (all_records cs v, all_read_own cs v, IsPermutation-refl (unmarked (all_records cs v)))

-- the head of a value's record
abbrev pub head_of_kind : Kind → Tag → Table Row → Name → Head
head_of_kind is_sequence t table n = sequence_head t table n
head_of_kind is_set t table n = set_head t table n

pub head_has_tag : (kind : Kind) (t : Tag) (table : Table Row) (n : Name) →
    HasOwnTag t (head_of_kind kind t table n)
head_has_tag is_sequence t table n = refl
head_has_tag is_set t table n = refl

-- the tag that X.680 assigns to the kind (8.4, table 1)
abbrev pub tag_of : Kind → Tag
tag_of is_sequence = universal 16
tag_of is_set = universal 17

-- there is an extension marker
abbrev pub has_marker : {V : Type 0} → Extension V → Bool
has_marker no_marker = false
has_marker (marker additions) = true

-- the additions, none if there is no marker
abbrev pub additions_of : {V : Type 0} → Extension V → List (ComponentType V)
additions_of no_marker = []
additions_of (marker additions) = additions

-- how many components come before the extension marker, if there is one
abbrev pub index_of_marker : {V : Type 0} → Extension V → ℕ → Option ℕ
index_of_marker no_marker k = None
index_of_marker (marker additions) k = Some k

-- these rows after the extension marker, if there is one
abbrev pub after_marker : {V : Type 0} → Extension V → List Row → Option (List Row)
after_marker no_marker rows = None
after_marker (marker additions) rows = Some rows

-- rows of a table, those after the extension marker apart, by the index of the marker
abbrev pub split_at_marker : List Row → Option ℕ → Table Row
split_at_marker ls None = record { root = ls; additions = None }
split_at_marker ls (Some k) = record { root = take k ls; additions = Some (drop k ls) }

module _ {V : Type 0} (components : Components V) where
  -- the additions, none if there is no extension marker
  abbrev pub added : List (ComponentType V)
  added = additions_of components.extension

  -- all components, in the order of their definition
  abbrev pub all_components : List (ComponentType V)
  all_components = components.root ++ added

  -- the records of a value's
  abbrev pub component_records : V → List Record
  component_records = all_records all_components

  -- what is read as a value's: of a SEQUENCE in the order of the definition, of a SET in any
  abbrev pub ComponentsAreRead : V → List Record → Type 0
  ComponentsAreRead = AreReadInKind components.kind all_components

  pub components_read_own : (v : V) → ComponentsAreRead v (component_records v)
  components_read_own = kind_reads_own components.kind all_components

  -- The rows of the field table: those of the root, and then the additions. The index of each is its index in the
  -- definition.
  abbrev pub root_views : List FieldView
  root_views = table_of_kind components.kind (views_from 0 components.root)

  abbrev pub added_views : List FieldView
  added_views = views_from (length components.root) added

  abbrev pub table : List FieldView
  table = root_views ++ added_views

  -- the same, as records have it
  abbrev pub rows : Table Row
  rows = record { root = map row_of root_views; additions = after_marker components.extension (map row_of added_views) }

  -- how many components come before the extension marker, if there is one
  abbrev pub extension_index : Option ℕ
  extension_index = index_of_marker components.extension (length components.root)

  -- each component is written where it is defined, in the root or among the additions, which may be absent at will
  abbrev pub AreOnTheirSides : Type 0
  AreOnTheirSides = EachCanBeOn in_root components.root × EachCanBeOn in_additions added ×
      EachMayBeAbsent added

  -- The type of each component is well tagged, each can be on its side of the marker, and tags are distinct.
  abbrev pub AreWellTagged : Type 0
  AreWellTagged = EachIsWellTagged all_components × AreOnTheirSides ×
      AreDistinctIn components.kind all_components

  -- the contents of a value
  abbrev pub inside : Inside V
  inside = record {
    records = component_records;
    AreReadAs = ComponentsAreRead;
    read_own = components_read_own;
    IsWellTagged = AreWellTagged;
    AreOfType = EachIsOfType all_components;
    AreValid = EachIsValid all_components;
    well_formed = all_well_formed all_components;
  }

  -- The type of these components, under a tag of its own, and with a name.
  abbrev pub constructed_type_under : Tag → List ℕ → Meaning V
  constructed_type_under tag name =
      scope_type (λ t c n. head_of_kind components.kind t rows n) (λ t c n. head_has_tag components.kind t rows n) tag unconstrained (Some name) inside

-- The type of these components, under the tag of its kind.
abbrev pub constructed_type : {V : Type 0} → List ℕ → Components V → Meaning V
constructed_type name components = constructed_type_under components (tag_of components.kind) name

-- A group of additions (X.680, 25.1), by its components: those of a SEQUENCE, without an extension marker of its own.
abbrev pub group : {V W : Type 0} → List ℕ → (V → Option W) → Components W → ComponentType V
group name get components = record (group_of name get (rows components) (all_components components)) {
  IsWellTagged = CanBeInSequence (all_components components) × (components.kind ≡ is_sequence) ×
      (has_marker components.extension ≡ false) × EachCanBeOn in_root components.root;
  fits = λ can v. group_fits (rows components) (all_components components) can.0.0 (get v);
}

-- The law of a type of components: its meaning is that of these. A value is always there, begins with the tag of the type,
-- and holds the records of theirs; it is well tagged if and only if they can be together; and a value meets the type's
-- invariant, and is valid, if and only if they do and are.
pub record AgreesWithComponents {V : Type 0} (components : Components V) (m : Meaning V) : Type 0 where
  pub tree : (t : Tag) → m.tree t ≡ leaf t
  pub records : (v : V) (t : Tag) (c : ConstraintSet) (n : Name) →
      m.records v t c n ≡ holding (head_of_kind components.kind t (rows components) n) (component_records components v) ∷ []
  pub read : (v : V) (t : Tag) (c : ConstraintSet) (rs : List Record) →
      m.IsReadAs v t c rs ↔ IsReadInside (ComponentsAreRead components) (head_of_kind components.kind t (rows components)) v rs
  pub single : m.IsSingleRecord
  pub present : (v : V) → m.is_present v ≡ true
  pub distinct_tags : (t : Tag) → m.HasDistinctTags t ↔ (IsATag t × AreWellTagged components)
  pub of_type : (v : V) → m.IsOfType v ↔ EachIsOfType (all_components components) v
  pub valid : (accepts : List ℕ → Bool) (v : V) → m.IsValid accepts v ↔ EachIsValid (all_components components) accepts v

-- each type that is made of the components keeps the law
pub constructed_agrees : {V : Type 0} {tag : Tag} {name : List ℕ} {components : Components V} →
    AgreesWithComponents components (constructed_type_under components tag name)
constructed_agrees = record {
  tree = λ _. refl;
  records = λ v t c n. refl;
  read = λ v t c rs. (λ h. h, λ h. h);
  single = tt;
  present = λ _. refl;
  distinct_tags = λ t. (λ h. h, λ h. h);
  of_type = λ v. (λ h. h, λ h. h);
  valid = λ accepts v. (λ h. h, λ h. h);
}

-- A type of this name and kind whose values are one record each, by its table and what is inside.
abbrev pub holding_type : {V : Type 0} → List ℕ → Kind → Table Row → Inside V → Meaning V
holding_type name kind table inside =
    scope_type (λ t c n. head_of_kind kind t table n) (λ t c n. head_has_tag kind t table n) (tag_of kind)
    unconstrained (Some name) inside

-- A type that holds itself. Its components speak of it, so the contents of its values are defined first, by recursion over
-- these. This is its meaning to its own components, without any premise.
abbrev pub inside_itself : {V : Type 0} → List ℕ → Kind → Table Row → Inside V → Meaning V
inside_itself name kind table inside =
    holding_type name kind table (record inside { IsWellTagged = ⊤ })

-- nothing inside
abbrev nothing : {V : Type 0} → Inside V
nothing = record {
  records = λ _. [];
  AreReadAs = λ _ rs. rs ≡ [];
  read_own = λ _. refl;
  IsWellTagged = ⊤;
  AreOfType = λ _. ⊤;
  AreValid = λ _ _. ⊤;
  well_formed = λ _ _ _. tt;
}

-- The table, by the components beside what the type is to them: it rests on nothing that the type says of values.
abbrev pub table_with_itself : {V W : Type 0} → List ℕ → Kind → (Meaning W → Components V) →
    Table Row
table_with_itself name kind components_with =
    rows (components_with (inside_itself name kind no_table nothing))

-- Its components, which speak of it by the words above.
abbrev pub components_with_itself : {V : Type 0} → List ℕ → Kind → (Meaning V → Components V) →
    Inside V → Components V
components_with_itself name kind components_with inside =
    components_with (inside_itself name kind (table_with_itself name kind components_with) inside)

-- And this is what it means to all others.
abbrev pub holding_itself : {V : Type 0} → List ℕ → Inside V → Components V → Meaning V
holding_itself name inside components =
    holding_type name components.kind (rows components)
    (record inside { IsWellTagged = AreWellTagged components })
