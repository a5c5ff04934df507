-- The meaning of a type that holds itself, by that of the generic type of which its values are made.
use Rattle.std.specs.Prelude.{◌≡◌, ◌↔◌, ◌⊎◌, ◌++◌, [], ◌∷◌, map, ℕ, zero, suc, ⊤, Bool, List, Option, None, Some, IfSome, All, refl}
use Rattle.std.proofs.Common.{ap, arith, inl, inr, sym, ◌∙◌, subst}
use Rattle.std.specs.Global.{Vec}
use Rattle.std.specs.List.{flat_map}
use Rattle.asn1_circles.specs.KnotReadings.{ReadAtSome, choice_at_some, inside_at_some, read_alike, same_if_some}
use Rattle.asn1_circles.specs.Knots.{IsMadeOf}
use Rattle.asn1_components.specs.Alternatives.{Alternatives, MeansTheSame, OneOf, ValueMeaning, all_of, chosen_meaning, no_meaning, table_of, trees_of}
use Rattle.asn1_components.specs.ComponentLists.{EachIsOfType, EachIsValid, all_well_formed}
use Rattle.asn1_components.specs.Components.{AreWellTagged, Components, ComponentsAreRead, Kind, all_components, component_records, components_read_own, constructed_type, head_of_kind, holding_type, inside_itself as inside_sequence, rows, table_with_itself as sequence_table}
use Rattle.asn1_components.specs.ChoiceTypes.{choice_by, choice_by_meanings, choice_of, inside_itself, table_with_itself}
use Rattle.asn1_model.specs.Composites.{choice_records}
use Rattle.asn1_model.specs.ConstraintSets.{ConstraintSet, unconstrained}
use Rattle.asn1_model.specs.Kinds.{Inside, list_type}
use Rattle.asn1_model.specs.Meaning.{Meaning}
use Rattle.asn1_model.specs.Readings.{IsReadAsChoice, IsReadInside}
use Rattle.asn1_model.specs.RecordTables.{Row, Table, no_table}
use Rattle.asn1_model.specs.Records.{Name, Record, holding}
use Rattle.asn1_model.specs.Tags.{Has, first_tag, tree_tags}
use Rattle.asn1_model.specs.WellFormed.{AreWellFormed}
use Rattle.asn1_types.specs.Kinds.{set_of_type}
use Rattle.asn1_tags.specs.Trees.{Trees, choice}
use Rattle.asn1_tags.specs.declared.tags.Tag.{Tag}

-- A type K, whose values are made of those of U K: what a value inside another means, by what each says of itself; what one of
-- the generic type says, by what those inside it mean; what a value is made of; and the records inside it.
pub record KnotOf (K : Type 0) (U : Type 0 → Type 0) : Type 1 where
  pub itself : (V : Type 0) → (V → ValueMeaning) → Meaning V
  pub content : (V : Type 0) → Meaning V → U V → ValueMeaning
  pub of : K → U K
  pub inside : K → List Record

-- Which values are valid, whose records are well formed.
pub record Valid {K : Type 0} (inside : K → List Record) : Type 1 where
  pub is : (List ℕ → Bool) → K → Type 0
  pub well_formed : (accepts : List ℕ → Bool) (v : K) → is accepts v → AreWellFormed accepts (inside v)

-- The records that are read as the contents of each value, its own among them.
pub record ReadInside {K : Type 0} (inside : K → List Record) : Type 1 where
  pub are : K → List Record → Type 0
  pub own : (v : K) → are v (inside v)

-- a value that has been written, by the records inside it
abbrev pub written_value : List Record → ValueMeaning
written_value rs = record {
  records = rs;
  AreReadAs = λ ss. ss ≡ rs;
  read_own = refl;
  IsOfType = ⊤;
  IsValid = λ accepts. AreWellFormed accepts rs;
  well_formed = λ accepts h. h;
}

abbrev pub written : ((V : Type 0) → (V → ValueMeaning) → Meaning V) → Meaning (List Record)
written itself = itself (List Record) written_value

module _ {K : Type 0} {U : Type 0 → Type 0} (k : KnotOf K U) where
  abbrev pub says : (K → Type 0) → Valid k.inside → ReadInside k.inside → K → ValueMeaning
  says of_type valid read v = record {
    records = k.inside v;
    AreReadAs = read.are v;
    read_own = read.own v;
    IsOfType = of_type v;
    IsValid = λ accepts. valid.is accepts v;
    well_formed = λ accepts. valid.well_formed accepts v;
  }

  -- a value inside another, by which of them meet their type's invariant, which are valid, and what is read as they are
  abbrev pub level : (K → Type 0) → Valid k.inside → ReadInside k.inside → Meaning K
  level of_type valid read = k.itself K (says of_type valid read)

  abbrev pub well_formed_alone : Valid k.inside
  well_formed_alone = record { is = λ accepts v. AreWellFormed accepts (k.inside v); well_formed = λ accepts v h. h }

  abbrev pub read_alone : ReadInside k.inside
  read_alone = record { are = λ v rs. rs ≡ k.inside v; own = λ v. refl }

  -- what a value is made of says, where this is what those inside it mean
  abbrev pub opened : Meaning K → K → ValueMeaning
  opened m v = k.content K m (k.of v)

  -- a value meets its type's invariant down to this depth, and is valid; and records are read as it, its own where no depth is left
  abbrev pub of_type_to : ℕ → K → Type 0
  of_type_to zero v = ⊤
  of_type_to (suc n) v = (opened (level (of_type_to n) well_formed_alone read_alone) v).IsOfType

  abbrev pub valid_to : ℕ → Valid k.inside
  valid_to zero = well_formed_alone
  valid_to (suc n) = record {
    is = λ accepts v. AreWellFormed accepts (k.inside v) × (opened (level (λ _. ⊤) (valid_to n) read_alone) v).IsValid accepts;
    well_formed = λ accepts v h. h.0;
  }

  abbrev pub read_to : ℕ → ReadInside k.inside
  read_to zero = read_alone
  read_to (suc n) = record {
    are = λ v rs. (read_to n).are v rs ⊎ (opened (level (λ _. ⊤) well_formed_alone (read_to n)) v).AreReadAs rs;
    own = λ v. inl ((read_to n).own v);
  }

  -- and to every depth, or to some
  abbrev pub valid : Valid k.inside
  valid = record { is = λ accepts v. (n : ℕ) → (valid_to n).is accepts v; well_formed = λ accepts v h. (valid_to 0).well_formed accepts v (h 0) }

  abbrev pub read : ReadInside k.inside
  read = record { are = λ v rs. (n : ℕ) × (read_to n).are v rs; own = λ v. (0, refl) }

  -- a value inside another, by these
  abbrev pub type_level : ℕ → Meaning K
  type_level n = level (of_type_to n) well_formed_alone read_alone

  abbrev pub valid_level : ℕ → Meaning K
  valid_level n = level (λ _. ⊤) (valid_to n) read_alone

  abbrev pub read_level : ℕ → Meaning K
  read_level n = level (λ _. ⊤) well_formed_alone (read_to n)

  abbrev pub means : K → ValueMeaning
  means = says (λ v. (n : ℕ) → of_type_to n v) valid read

  abbrev pub inner : Meaning K
  inner = k.itself K means

  -- The laws, which are read off the generic type: what holds of what is inside at every depth, holds of it; what is read as it is
  -- read so down to some depth; and the records inside a value are those of what it is made of.
  pub record KnotLaws : Type 0 where
    pub of_type : (u : U K) → ((n : ℕ) → (k.content K (type_level n) u).IsOfType) ↔ (k.content K inner u).IsOfType
    pub valid_inside : (accepts : List ℕ → Bool) (u : U K) → ((n : ℕ) → (k.content K (valid_level n) u).IsValid accepts) ↔ (k.content K inner u).IsValid accepts
    pub read_inside : (u : U K) → ReadAtSome (λ n. (k.content K (read_level n) u).AreReadAs) (k.content K inner u).AreReadAs
    pub records : (v : K) → k.inside v ≡ (k.content K inner (k.of v)).records

  to_each_depth : (v : K) → ((n : ℕ) → of_type_to (suc n) v) → (n : ℕ) → of_type_to n v
  to_each_depth v h zero = tt
  to_each_depth v h (suc n) = h n

  valid_to_each_depth : (accepts : List ℕ → Bool) (v : K) → AreWellFormed accepts (k.inside v) →
      ((n : ℕ) → (opened (valid_level n) v).IsValid accepts) → (n : ℕ) → (valid_to n).is accepts v
  valid_to_each_depth accepts v well h zero = well
  valid_to_each_depth accepts v well h (suc n) = (well, h n)

  -- what is read inside a value down to some depth
  pub inside_is_read : (v : K) → ReadAtSome (λ n. (read_to n).are v) (read.are v)
  inside_is_read v = record { at = λ rs. record { grows = λ n are. inl are; within = λ n are. (n, are); reached = λ are. are } }

  read_at_depth : KnotLaws → (v : K) (n : ℕ) (rs : List Record) → (read_to n).are v rs → (opened inner v).AreReadAs rs
  read_at_depth laws v zero rs is = subst (opened inner v).AreReadAs (sym (is ∙ laws.records v)) (opened inner v).read_own
  read_at_depth laws v (suc n) rs (inl before) = read_at_depth laws v n rs before
  read_at_depth laws v (suc n) rs (inr are) = ((laws.read_inside (k.of v)).at rs).within n are

  -- so what a value says of itself is what it is made of says
  pub agrees : KnotLaws → (v : K) → MeansTheSame (means v) (k.content K inner (k.of v))
  agrees laws v =
      let types = laws.of_type (k.of v) in record {
        records = laws.records v;
        read = λ rs. (
          λ (n, are). read_at_depth laws v n rs are,
          λ are. let (n, at) = ((laws.read_inside (k.of v)).at rs).reached are in (suc n, inr at),
        );
        of_type = (λ h. types.0 (λ n. h (suc n)), λ h. to_each_depth v (types.1 h));
        valid = λ accepts. let valid = laws.valid_inside accepts (k.of v) in (
          λ h. valid.0 (λ n. (h (suc n)).1),
          λ h. valid_to_each_depth accepts v (subst (AreWellFormed accepts) (sym (laws.records v)) ((k.content K inner (k.of v)).well_formed accepts h)) (valid.1 h),
        );
      }

-- What holds at every depth, part by part.
pub same_at_all : {A : Type 0} → ((n : ℕ) → A) ↔ A
same_at_all = (λ h. h 0, λ h n. h)

pub both_at_all : {A B : ℕ → Type 0} {A' B' : Type 0} → (((n : ℕ) → A n) ↔ A') → (((n : ℕ) → B n) ↔ B') → ((n : ℕ) → A n × B n) ↔ (A' × B')
both_at_all one other = (λ h. (one.0 (λ n. (h n).0), other.0 (λ n. (h n).1)), λ h n. (one.1 h.0 n, other.1 h.1 n))

pub each_at_all : {X : Type 0} (P : ℕ → X → Type 0) (xs : List X) → ((n : ℕ) → All (P n) xs) ↔ All (λ x. (n : ℕ) → P n x) xs
each_at_all P xs = (λ h k d few n. h n k d few, λ h n k d few. h k d few n)

pub if_some_at_all : {X : Type 0} (P : ℕ → X → Type 0) (o : Option X) → ((n : ℕ) → IfSome o (P n)) ↔ IfSome o (λ x. (n : ℕ) → P n x)
if_some_at_all P None = (λ h. h 0, λ h n. h)
if_some_at_all P (Some x) = (λ h. h, λ h. h)

pub itself_at_all : {A : ℕ → Type 0} → ((n : ℕ) → A n) ↔ ((n : ℕ) → A n)
itself_at_all = (λ h. h, λ h. h)

pub each_by : {X : Type 0} (P : ℕ → X → Type 0) (Q : X → Type 0) → ((x : X) → ((n : ℕ) → P n x) ↔ Q x) →
    (xs : List X) → ((n : ℕ) → All (P n) xs) ↔ All Q xs
each_by P Q same xs = (λ h k d few. (same _).0 (λ n. h n k d few), λ h n k d few. (same _).1 (h k d few) n)

pub if_some_by : {X : Type 0} (P : ℕ → X → Type 0) (Q : X → Type 0) → ((x : X) → ((n : ℕ) → P n x) ↔ Q x) →
    (o : Option X) → ((n : ℕ) → IfSome o (P n)) ↔ IfSome o Q
if_some_by P Q same None = (λ h. h 0, λ h n. h)
if_some_by P Q same (Some x) = same x

-- the records of the elements of a list, where those of each are the same
pub list_by : {X Y : Type 0} (h : Y → List Record) (g : X → List Record) (v : X → Y) → ((x : X) → h (v x) ≡ g x) →
    (xs : List X) → flat_map h (map v xs) ≡ flat_map g xs
list_by h g v same [] = refl
list_by h g v same (x ∷ xs) = ap (λ rs. rs ++ flat_map h (map v xs)) (same x) ∙ ap (λ rs. g x ++ rs) (list_by h g v same xs)

-- The lists of values of a meaning: a SEQUENCE OF and a SET OF.
abbrev pub list_meaning : {V : Type 0} → Meaning V → Meaning (Vec V)
list_meaning {V} m = list_type (λ (l : Vec V). l.items) unconstrained m

abbrev pub set_meaning : {V : Type 0} → Meaning V → Meaning (List V)
set_meaning {V} m = set_of_type (λ (l : List V). l) m

-- A list of one element, and what is made of the first of a list or of the value of an option.
abbrev pub with_one : {X : Type 0} → Vec X → X → Vec X
with_one v x = record v { items = x ∷ []; len = 1; cap = 1; ok = (refl, omega arith); small = omega arith }

abbrev pub of_first : {X A : Type 0} → (X → List A) → List X → List A
of_first g [] = []
of_first g (x ∷ xs) = g x

abbrev pub of_some : {X A : Type 0} → (X → List A) → Option X → List A
of_some g None = []
of_some g (Some x) = g x

-- a CHOICE that holds itself, by its alternatives beside what it is to them
module _ {U : Type 0 → Type 0} (name : List ℕ) (alternatives : (V : Type 0) → Meaning V → Alternatives)
    (pick : (V : Type 0) (m : Meaning V) → U V → OneOf (all_of (alternatives V m))) where
  -- its table, and the tags with which each alternative can begin, which rest on nothing that it says of values
  abbrev pub knot_table : Table Row
  knot_table = table_with_itself {V = List Record} name (alternatives (List Record))

  abbrev pub knot_trees : Trees
  knot_trees = trees_of (all_of (alternatives (List Record) (inside_itself {V = List Record} name no_table (λ _. no_meaning))))

  -- inside another it has its own tags, with which the records of each have to begin
  abbrev pub choice_itself : (V : Type 0) → (V → ValueMeaning) → Meaning V
  choice_itself V means = choice_by name knot_table knot_trees
      ((v : V) → Has (tree_tags (choice knot_trees)) (first_tag (means v).records)) means (λ can v. can v)

  abbrev pub choice_content : (V : Type 0) → Meaning V → U V → ValueMeaning
  choice_content V m u = chosen_meaning (all_of (alternatives V m)) (pick V m u)

  -- the records inside one that is made of written ones
  abbrev pub write_choice : U (List Record) → List Record
  write_choice u = (choice_content (List Record) (written choice_itself) u).records

  module _ {K : Type 0} (of : K → U K) (inside : K → List Record) where
    abbrev pub choice_knot : KnotOf K U
    choice_knot = record { itself = choice_itself; content = choice_content; of = of; inside = inside }

    -- what is read as a value inside another
    pub choice_itself_is_read : (t : Tag) (c : ConstraintSet) (v : K) →
        ReadAtSome (λ n. (read_level choice_knot n).IsReadAs v t c) ((inner choice_knot).IsReadAs v t c)
    choice_itself_is_read t c v = choice_at_some (λ n. (read_to choice_knot n).are) (read choice_knot).are v v (inside_is_read choice_knot v) knot_table unconstrained t c

    module _ (laws : KnotLaws choice_knot) where
      -- The meaning of the type.
      abbrev pub knot_meaning : Meaning K
      knot_meaning = choice_by_meanings name (alternatives K (inner choice_knot)) (λ v. pick K (inner choice_knot) (of v)) (means choice_knot) (agrees choice_knot laws)

      -- It is the meaning of what a value is made of, where those inside are of the type.
      pub knot_is_made : table_of (alternatives K (inner choice_knot)) ≡ table_of (alternatives K knot_meaning) →
          ((u : U K) → MeansTheSame (choice_content K (inner choice_knot) u) (choice_content K knot_meaning u)) →
          IsMadeOf of knot_meaning (choice_of name (alternatives K knot_meaning) (pick K knot_meaning))
      knot_is_made same unrolled = record {
        single = tt;
        records = λ v t c n. ap (λ rs. choice_records (first_tag rs) (table_of (alternatives K (inner choice_knot))) rs unconstrained (Some name) t c n)
            (laws.records v ∙ (unrolled (of v)).records)
            ∙ ap (λ table. choice_records (first_tag (choice_content K knot_meaning (of v)).records) table (choice_content K knot_meaning (of v)).records unconstrained (Some name) t c n) same;
        read = λ v t c rs.
            subst (λ table. IsReadAsChoice (λ w. (means choice_knot w).AreReadAs) (table_of (alternatives K (inner choice_knot))) unconstrained t c v rs ↔ IsReadAsChoice (λ u. (choice_content K knot_meaning u).AreReadAs) table unconstrained t c (of v) rs) same
            (same_if_some ((choice_at_some (λ _ w. (means choice_knot w).AreReadAs) (λ u. (choice_content K knot_meaning u).AreReadAs) v (of v) (read_alike (agrees choice_knot laws v) (unrolled (of v))) (table_of (alternatives K (inner choice_knot))) unconstrained t c).at rs));
        of_type = λ v h. (unrolled (of v)).of_type.0 ((agrees choice_knot laws v).of_type.0 h);
        of_type_back = λ v h. (agrees choice_knot laws v).of_type.1 ((unrolled (of v)).of_type.1 h);
        valid = λ accepts v h. ((unrolled (of v)).valid accepts).0 (((agrees choice_knot laws v).valid accepts).0 h);
        valid_back = λ accepts v h. ((agrees choice_knot laws v).valid accepts).1 (((unrolled (of v)).valid accepts).1 h);
      }

-- a SEQUENCE or a SET that holds itself, by its components beside what it is to them
module _ {U : Type 0 → Type 0} (name : List ℕ) (kind : Kind) (components : (V : Type 0) → Meaning V → Components (U V)) where
  -- what is inside, by what each value says
  abbrev pub inside_by : (V : Type 0) → (V → ValueMeaning) → Inside V
  inside_by V means = record {
    records = λ v. (means v).records;
    AreReadAs = λ v. (means v).AreReadAs;
    read_own = λ v. (means v).read_own;
    IsWellTagged = ⊤;
    AreOfType = λ v. (means v).IsOfType;
    AreValid = λ accepts v. (means v).IsValid accepts;
    well_formed = λ accepts v. (means v).well_formed accepts;
  }

  abbrev pub sequence_itself : (V : Type 0) → (V → ValueMeaning) → Meaning V
  sequence_itself V means = inside_sequence name kind (sequence_table {V = U (List Record)} {W = List Record} name kind (components (List Record))) (inside_by V means)

  abbrev pub sequence_content : (V : Type 0) → Meaning V → U V → ValueMeaning
  sequence_content V m u = record {
    records = component_records (components V m) u;
    AreReadAs = ComponentsAreRead (components V m) u;
    read_own = components_read_own (components V m) u;
    IsOfType = EachIsOfType (all_components (components V m)) u;
    IsValid = λ accepts. EachIsValid (all_components (components V m)) accepts u;
    well_formed = λ accepts. all_well_formed (all_components (components V m)) accepts u;
  }

  abbrev pub write_sequence : U (List Record) → List Record
  write_sequence u = (sequence_content (List Record) (written sequence_itself) u).records

  module _ {K : Type 0} (of : K → U K) (inside : K → List Record) where
    abbrev pub sequence_knot : KnotOf K U
    sequence_knot = record { itself = sequence_itself; content = sequence_content; of = of; inside = inside }

    pub sequence_itself_is_read : (t : Tag) (c : ConstraintSet) (v : K) →
        ReadAtSome (λ n. (read_level sequence_knot n).IsReadAs v t c) ((inner sequence_knot).IsReadAs v t c)
    sequence_itself_is_read t c v = inside_at_some (head_of_kind kind t (sequence_table {V = U (List Record)} {W = List Record} name kind (components (List Record)))) (inside_is_read sequence_knot v)

    module _ (laws : KnotLaws sequence_knot) where
      abbrev pub sequence_knot_meaning : Meaning K
      sequence_knot_meaning = holding_type name kind (rows (components K (inner sequence_knot)))
          (record (inside_by K (means sequence_knot)) { IsWellTagged = AreWellTagged (components K (inner sequence_knot)) })

      pub sequence_is_made : kind ≡ (components K sequence_knot_meaning).kind →
          rows (components K (inner sequence_knot)) ≡ rows (components K sequence_knot_meaning) →
          ((u : U K) → MeansTheSame (sequence_content K (inner sequence_knot) u) (sequence_content K sequence_knot_meaning u)) →
          IsMadeOf of sequence_knot_meaning (constructed_type name (components K sequence_knot_meaning))
      sequence_is_made same_kind same unrolled = record {
        single = tt;
        records = λ v t c n. ap (λ k. holding (head_of_kind k t (rows (components K (inner sequence_knot))) n) (inside v) ∷ []) same_kind
            ∙ ap (λ table. holding (head_of_kind (components K sequence_knot_meaning).kind t table n) (inside v) ∷ []) same
            ∙ ap (λ rs. holding (head_of_kind (components K sequence_knot_meaning).kind t (rows (components K sequence_knot_meaning)) n) rs ∷ [])
            (laws.records v ∙ (unrolled (of v)).records);
        read = λ v t c rs.
            subst (λ table. IsReadInside (λ w. (means sequence_knot w).AreReadAs) (head_of_kind kind t (rows (components K (inner sequence_knot)))) v rs ↔ IsReadInside (ComponentsAreRead (components K sequence_knot_meaning)) (head_of_kind (components K sequence_knot_meaning).kind t table) (of v) rs) same
            (subst (λ k. IsReadInside (λ w. (means sequence_knot w).AreReadAs) (head_of_kind kind t (rows (components K (inner sequence_knot)))) v rs ↔ IsReadInside (ComponentsAreRead (components K sequence_knot_meaning)) (head_of_kind k t (rows (components K (inner sequence_knot)))) (of v) rs) same_kind
            (same_if_some ((inside_at_some (head_of_kind kind t (rows (components K (inner sequence_knot)))) (read_alike (agrees sequence_knot laws v) (unrolled (of v)))).at rs)));
        of_type = λ v h. (unrolled (of v)).of_type.0 ((agrees sequence_knot laws v).of_type.0 h);
        of_type_back = λ v h. (agrees sequence_knot laws v).of_type.1 ((unrolled (of v)).of_type.1 h);
        valid = λ accepts v h. ((unrolled (of v)).valid accepts).0 (((agrees sequence_knot laws v).valid accepts).0 h);
        valid_back = λ accepts v h. ((agrees sequence_knot laws v).valid accepts).1 (((unrolled (of v)).valid accepts).1 h);
      }
