-- Components whose equal values are written alike, and types of them.
use Rattle.std.proofs.Common.{◌≡◌, ◌∙◌, ℕ, Bool, true, List, [], ◌∷◌, ◌++◌, Option, None, Some, ap, subst, sym}
use Rattle.std.specs.Option.{option_eq, option_map}
use Rattle.std.specs.Prelude.{◌&&◌, ⊤}
use Rattle.std.proofs.lemmas.Bool.{and_parts}
use Rattle.asn1_tags.specs.declared.tags.Tag.{Tag}
use Rattle.asn1_model.proofs.SameUpToOrder.{SameAll-append, SameAll-refl, same_group_records, same_holding}
use Rattle.asn1_model.proofs.WrittenAlike.{defaults_alike, options_alike}
use Rattle.asn1_model.specs.Composites.{group_records}
use Rattle.asn1_model.specs.Meaning.{Meaning}
use Rattle.asn1_model.specs.Orders.{SameRecords, at_end}
use Rattle.asn1_model.specs.RecordTables.{Row, Table}
use Rattle.asn1_model.specs.Records.{Record, Side, holding}
use Rattle.asn1_model.specs.TaggedTypes.{TaggedType}
use Rattle.asn1_model.specs.WrittenAlike.{AreAlikeInside, AreWrittenAlike, HaveSameRecords}
use Rattle.asn1_components.specs.ComponentLists.{EachIsWellTagged, all_records}
use Rattle.asn1_components.specs.ComponentTypes.{ComponentType, default_in, optional_in, required}
use Rattle.asn1_components.specs.Components.{AgreesWithComponents, Components, all_components, component_records, head_of_kind, rows}
use Rattle.asn1_components.specs.WrittenAlike.{EachIsAlike, IsAlike, all_equal}

pub required_alike : {V W : Type 0} (name : List ℕ) (get : V → W) (type : TaggedType W) {eq : W → W → Bool} → AreAlikeInside type eq →
    IsAlike (required name get type) (λ v w. eq (get v) (get w))
required_alike name get type alike can v w same = alike can (get v) (get w) same

pub optional_alike : {V W : Type 0} (side : Side) (name : List ℕ) (get : V → Option W) (type : TaggedType W) {eq : W → W → Bool} → AreAlikeInside type eq →
    IsAlike (optional_in side name get type) (λ v w. option_eq eq (get v) (get w))
optional_alike side name get type alike can v w same = options_alike side type.tag type.records (alike can) (get v) (get w) same

-- a component with a default, where equal values pass the test for it together
pub default_alike : {V W : Type 0} (side : Side) (name : List ℕ) (get : V → W) (test : W → Bool) (type : TaggedType W) {eq : W → W → Bool} →
    ((x y : W) → eq x y ≡ true → test x ≡ test y) → AreAlikeInside type eq →
    IsAlike (default_in side name get (λ v. test (get v)) type) (λ v w. eq (get v) (get w))
default_alike side name get test type tested alike can v w same =
    defaults_alike side type.tag (type.records (get v)) (type.records (get w)) (test (get v)) (test (get w)) (tested (get v) (get w) same)
    (alike can (get v) (get w) same)

-- the records of all
pub all_alike : {V : Type 0} (cs : List (ComponentType V)) (es : List (V → V → Bool)) → EachIsAlike cs es → EachIsWellTagged cs →
    HaveSameRecords (all_equal es) (all_records cs)
all_alike [] es each can v w same = at_end
all_alike (c ∷ cs) [] each can v w same = absurd each
all_alike (c ∷ []) (e ∷ []) each can v w same = SameAll-append (c.records v) (c.records w) [] [] (each.0 can.0 v w same) at_end
all_alike (c ∷ []) (e ∷ f ∷ es) each can v w same = absurd each.1
all_alike (c ∷ d ∷ cs) (e ∷ []) each can v w same = absurd each.1
all_alike (c ∷ d ∷ cs) (e ∷ f ∷ es) each can v w same =
    let both = and_parts _ _ same in
    SameAll-append (c.records v) (c.records w) (all_records (d ∷ cs) v) (all_records (d ∷ cs) w) (each.0 can.0 v w both.0)
    (all_alike (d ∷ cs) (f ∷ es) each.1 can.1 v w both.1)

-- a group, by the records of its components
pub groups_alike : {W : Type 0} {eq : W → W → Bool} (table : Table Row) (f : W → List Record) → HaveSameRecords eq f →
    HaveSameRecords (option_eq eq) (λ o. group_records table (option_map f o))
groups_alike table f alike None None same = SameAll-refl _
groups_alike table f alike None (Some y) same = cc
groups_alike table f alike (Some x) None same = cc
groups_alike table f alike (Some x) (Some y) same = same_group_records table (f x) (f y) (alike x y same)

-- A type of components whose equality is that of these, one by one.
pub constructed_alike : {V : Type 0} (components : Components V) (m : Meaning V) (es : List (V → V → Bool)) {eq : V → V → Bool} →
    AgreesWithComponents components m → EachIsAlike (all_components components) es →
    ((v w : V) → eq v w ≡ all_equal es v w) → AreWrittenAlike m eq
constructed_alike components m es law each compared t c n can v w same =
    let head = head_of_kind components.kind t (rows components) n in
    let well = ((law.distinct_tags t).0 can).1.0 in
    let inside = same_holding head (component_records components v) (component_records components w)
    (all_alike (all_components components) es each well v w (sym (compared v w) ∙ same)) in
    subst (λ rs. SameRecords rs (m.records w t c n)) (sym (law.records v t c n))
    (subst (SameRecords (holding head (component_records components v) ∷ [])) (sym (law.records w t c n)) inside)
