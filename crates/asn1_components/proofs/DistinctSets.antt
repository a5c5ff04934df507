-- Components in which the components of each SET have distinct tags, and types of them.
use Rattle.std.proofs.Common.{◌≡◌, ℕ, Bool, true, false, List, [], ◌∷◌, ◌++◌, Option, None, Some, refl, subst, sym}
use Rattle.std.specs.Option.{option_map}
use Rattle.std.specs.Prelude.{if◌then◌else◌}
use Rattle.asn1_tags.specs.declared.tags.Tag.{Tag}
use Rattle.asn1_model.proofs.DistinctSets.{distinct_append, distinct_default, distinct_option}
use Rattle.asn1_model.specs.Composites.{group_records}
use Rattle.asn1_model.specs.DistinctSets.{AreDistinct, AreDistinctIn, HaveDistinctTags, SetsAreDistinct, SetsAreDistinctInside}
use Rattle.asn1_model.specs.Meaning.{Meaning}
use Rattle.asn1_model.specs.RecordTables.{Row, Table}
use Rattle.asn1_model.specs.Records.{Name, Record, Side, group_absent, group_end, group_start, held, presence_mark, presence_marks_alone}
use Rattle.asn1_model.specs.TaggedTypes.{TaggedType}
use Rattle.asn1_components.specs.ComponentLists.{EachIsWellTagged, all_records}
use Rattle.asn1_components.specs.ComponentTypes.{ComponentType, default_in, optional_in, required}
use Rattle.asn1_components.specs.Components.{AgreesWithComponents, AreWellTagged, Components, Kind, all_components, component_records, head_of_kind, is_sequence, is_set, rows}
use Rattle.asn1_components.specs.DistinctSets.{EachIsDistinct, IsDistinct}

pub required_distinct : {V W : Type 0} (name : List ℕ) (get : V → W) (type : TaggedType W) → SetsAreDistinctInside type → IsDistinct (required name get type)
required_distinct name get type own can v = own can (get v)

pub optional_distinct : {V W : Type 0} (side : Side) (name : List ℕ) (get : V → Option W) (type : TaggedType W) → SetsAreDistinctInside type →
    IsDistinct (optional_in side name get type)
optional_distinct side name get type own can v = distinct_option side type.tag type.records (own can) (get v)

pub default_distinct : {V W : Type 0} (side : Side) (name : List ℕ) (get : V → W) (is_default : V → Bool) (type : TaggedType W) → SetsAreDistinctInside type →
    IsDistinct (default_in side name get is_default type)
default_distinct side name get is_default type own can v = distinct_default side type.tag (type.records (get v)) (own can (get v)) (is_default v)

-- a group, by the records of its components
abbrev group_or_mark : Table Row → List Record → Bool → List Record
group_or_mark table rs alone =
    if alone then presence_mark (group_absent table) ∷ [] else presence_mark (group_start table) ∷ rs ++ presence_mark group_end ∷ []

between_marks : (table : Table Row) (rs : List Record) → AreDistinct rs → (alone : Bool) → AreDistinct (group_or_mark table rs alone)
between_marks table rs own true = (tt, tt)
between_marks table rs own false = (tt, distinct_append rs (presence_mark group_end ∷ []) own (tt, tt))

pub groups_distinct : {W : Type 0} (table : Table Row) (f : W → List Record) → ((w : W) → AreDistinct (f w)) → (o : Option W) → AreDistinct (group_records table (option_map f o))
groups_distinct table f each None = (tt, tt)
groups_distinct table f each (Some w) = between_marks table (f w) (each w) (presence_marks_alone (f w))

-- all components
pub all_distinct : {V : Type 0} (cs : List (ComponentType V)) → EachIsDistinct cs → EachIsWellTagged cs → (v : V) → AreDistinct (all_records cs v)
all_distinct [] each can v = tt
all_distinct (c ∷ cs) each can v = distinct_append (c.records v) (all_records cs v) (each.0 can.0 v) (all_distinct cs each.1 can.1 v)

-- the head of a SEQUENCE asks nothing of what is inside, and that of a SET distinct tags
under_head : (kind : Kind) (t : Tag) (table : Table Row) (n : Name) (rs : List Record) → (kind ≡ is_set → HaveDistinctTags (held rs)) → AreDistinctIn (head_of_kind kind t table n) (held rs)
under_head is_sequence t table n rs tags = tt
under_head is_set t table n rs tags = tags refl

-- A type of components, of which those of a SET have distinct tags.
pub constructed_distinct : {V : Type 0} (components : Components V) (m : Meaning V) → AgreesWithComponents components m → EachIsDistinct (all_components components) →
    (components.kind ≡ is_set → AreWellTagged components → (v : V) → HaveDistinctTags (held (component_records components v))) → SetsAreDistinct m
constructed_distinct components m law each tags t c n can v =
    let well = ((law.distinct_tags t).0 can).1 in
    subst AreDistinct (sym (law.records v t c n))
    ((under_head components.kind t (rows components) n (component_records components v) (λ kind. tags kind well v), all_distinct (all_components components) each well.0 v), tt)
