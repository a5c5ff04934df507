-- Well-formed records, as every valid value has.
use Rattle.std.specs.Prelude.{◌≡◌, ℕ, ⊤, Bool, true, false, IsTrue, List, [], ◌∷◌, ◌++◌, All, Option, None, Some, IfSome, if◌then◌else◌}
use Rattle.std.proofs.Common.{ap}
use Rattle.std.specs.List.{flat_map}
use Rattle.std.specs.Option.{option_map}
use Rattle.std.proofs.lemmas.List.Elements.{All-head, All-tail}
use Rattle.asn1_tags.specs.declared.tags.Tag.{Tag}
use Rattle.asn1_tags.specs.Tags.{tag_eq}
use Rattle.asn1_model.specs.Composites.{alternative_records, choice_records, option_records, explicit_tag_records}
use Rattle.asn1_model.specs.ConstraintSets.{ConstraintSet}
use Rattle.asn1_model.specs.Records.{Head, Name, name_or, Record, Records, Side, alternative, none, more, explicit_tag, scalar, scope, sequence, sequence_of, set, set_of, open_type, presence_mark, held, holding, listed, listed-held}
use Rattle.asn1_model.specs.RecordTables.{Row, Table}
use Rattle.asn1_model.specs.Tags.{CHOICE, HasOwnTag, HoldsItsTag, first_tag}

-- Records are well formed where each open type among them holds bytes that the codec accepts as one value (X.681, 14), and each
-- alternative has the first tag of what is inside (X.680, 29).
abbrev mutual
  pub IsWellFormed : (List ℕ → Bool) → Record → Type 0
  IsWellFormed accepts (scalar t c n x) = ⊤
  IsWellFormed accepts (scope h rs) = HoldsItsTag h (listed rs) × EachIsWellFormed accepts rs
  IsWellFormed accepts (open_type n bytes) = IsTrue (accepts bytes)
  IsWellFormed accepts (presence_mark m) = ⊤

  pub EachIsWellFormed : (List ℕ → Bool) → Records → Type 0
  EachIsWellFormed accepts none = ⊤
  EachIsWellFormed accepts (more r rs) = IsWellFormed accepts r × EachIsWellFormed accepts rs

-- each record of a list is well formed
abbrev pub AreWellFormed : (List ℕ → Bool) → List Record → Type 0
AreWellFormed accepts rs = EachIsWellFormed accepts (held rs)

-- Two well-formed lists are one, one after the other.
pub well_formed_append : (accepts : List ℕ → Bool) (rs ss : List Record) →
    AreWellFormed accepts rs → AreWellFormed accepts ss → AreWellFormed accepts (rs ++ ss)
well_formed_append accepts [] ss first later = later
well_formed_append accepts (r ∷ rs) ss first later =
    (first.0, well_formed_append accepts rs ss first.1 later)

-- a head that is no alternative has no tag of the contents
no_alternative : (u : Tag) (head : Head) (rs : List Record) → HasOwnTag u head → HoldsItsTag head rs
no_alternative u (sequence t table n) rs own = tt
no_alternative u (set t table n) rs own = tt
no_alternative u (sequence_of t c n) rs own = tt
no_alternative u (set_of t c n) rs own = tt
no_alternative u (explicit_tag t n) rs own = tt
no_alternative u (alternative t c table n) rs own = absurd own

-- A record that holds well-formed ones, and is no alternative, is well formed.
pub well_formed_scope : (accepts : List ℕ → Bool) (u : Tag) (head : Head) (rs : List Record) →
    HasOwnTag u head → AreWellFormed accepts rs → AreWellFormed accepts (holding head rs ∷ [])
well_formed_scope accepts u head rs own inside =
    ((no_alternative u head (listed (held rs)) own, inside), tt)

-- The records of a list of elements are well formed where those of each are.
pub well_formed_elements : {V : Type 0} (accepts : List ℕ → Bool) (P : V → Type 0) (f : V → List Record) →
    ((v : V) → P v → AreWellFormed accepts (f v)) →
    (vs : List V) → All P vs → AreWellFormed accepts (flat_map f vs)
well_formed_elements accepts P f each [] all = tt
well_formed_elements accepts P f each (v ∷ vs) all =
    well_formed_append accepts (f v) (flat_map f vs) (each v (All-head P v vs all))
    (well_formed_elements accepts P f each vs (All-tail P v vs all))

-- So are those of a component that may be absent.
pub well_formed_option : {V : Type 0} (accepts : List ℕ → Bool) (side : Side) (t : Tag)
    (P : V → Type 0) (f : V → List Record) →
    ((v : V) → P v → AreWellFormed accepts (f v)) →
    (o : Option V) → IfSome o P → AreWellFormed accepts (option_records side t (option_map f o))
well_formed_option accepts side t P f each None p = (tt, tt)
well_formed_option accepts side t P f each (Some v) p = (tt, each v p)

-- So are those of a CHOICE, whose tag is the first of what is inside.
pub well_formed_choice : (accepts : List ℕ → Bool) (table : Table Row) (rs : List Record)
    (own_constraints : ConstraintSet) (own_name : Name) (t : Tag) (c : ConstraintSet) (n : Name) →
    AreWellFormed accepts rs →
    AreWellFormed accepts (choice_records (first_tag rs) table rs own_constraints own_name t c n)
well_formed_choice accepts table rs own_constraints own_name t c n are = by_tag (tag_eq t CHOICE)
  where
    inside : first_tag (listed (held rs)) ≡ first_tag rs
    inside = ap first_tag (listed-held rs)

    by_tag : (untagged : Bool) →
        AreWellFormed accepts
        (if untagged
        then alternative_records (first_tag rs) c table (name_or n own_name) rs
        else explicit_tag_records t (name_or n own_name) (alternative_records (first_tag rs) own_constraints table own_name rs))
    by_tag true = ((inside, are), tt)
    by_tag false = ((tt, ((inside, are), tt)), tt)
