-- Types that are read into slots, in which the components of each SET have distinct tags.
use Rattle.std.proofs.Common.{◌≡◌, ◌∙◌, ap, ℕ, ◌≤◌, suc, zero, Bool, true, false, List, [], ◌∷◌, ◌++◌, inl, inr, subst, sym, arith}
use Rattle.std.specs.Prelude.{◌⊎◌, ⊤, refl}
use Rattle.asn1_tags.specs.declared.tags.Tag.{Tag}
use Rattle.asn1_tags.specs.Trees.{Tree}
use Rattle.asn1_model.proofs.TagSets.{lies_has}
use Rattle.asn1_model.specs.DistinctSets.{AreDistinct, HaveDistinctTags, SetsAreDistinct, SharesNoTag}
use Rattle.asn1_model.specs.Meaning.{Meaning}
use Rattle.asn1_model.specs.Records.{PresenceMark, Record, Records, held, more, none, open_type, presence_mark, presence_marks_alone, scalar, scope, unmarked}
use Rattle.asn1_model.specs.Tags.{Has, LiesIn, ShareNone, Tags, among, first_tags, record_tags, tree_tags}
use Rattle.asn1_components.proofs.DistinctFollowers.{set_apart}
use Rattle.asn1_components.proofs.DistinctSets.{constructed_distinct}
use Rattle.asn1_components.specs.ComponentLists.{AreDistinctInSet, EachIsWellTagged, all_records}
use Rattle.asn1_components.specs.ComponentTypes.{ComponentType, Fits}
use Rattle.asn1_components.specs.Components.{AgreesWithComponents, AreDistinctIn, AreWellTagged, Components, Kind, all_components, is_sequence, is_set}
use Rattle.asn1_components.specs.DistinctSets.{EachIsDistinct, IsDistinct}
use Rattle.asn1_components.specs.Following.{AllApart, ApartFromEach}
use Rattle.asn1_laws.specs.Reading.{records_in}
use Rattle.asn1_laws.specs.SetParts.{EachIsOneRecord}
use Rattle.asn1_slots.proofs.Layouts.{slots_of_type}
use Rattle.asn1_slots.proofs.ReadInSets.{apart_slots, distinct_slots, records_slots, well_tagged_slots}
use Rattle.asn1_slots.specs.SlotsInStep.{each_is_one, each_well_tagged, parts_apart, written_in_parts}
use Rattle.asn1_slots.specs.Slots.{AreSlotsOf, EachCanBeDistinct, IsLayoutOf, SameComponent, Slot, can_be_in_set, parts_of_slots}

-- no tag is one of none
no_tag : {P : Type 0} (t : Tag) → Has (among []) t → P
no_tag t (k, below, same) = absurd (omega (arith, below))

-- the tags of each record lie in these
abbrev AllWithin : Tags → Records → Type 0
AllWithin a none = ⊤
AllWithin a (more r rs) = LiesIn (record_tags r) a × AllWithin a rs

-- a SEQUENCE is no SET
pub no_set : is_sequence ≡ is_set → ⊥
no_set same = cc

-- presence marks have no tags
marks_within : (a : Tags) (rs : List Record) → records_in rs ≡ 0 → AllWithin a (held rs)
marks_within a [] nothing = tt
marks_within a (scalar t c n x ∷ rs) nothing = cc
marks_within a (scope h inner ∷ rs) nothing = cc
marks_within a (open_type n own ∷ rs) nothing = cc
marks_within a (presence_mark m ∷ rs) nothing = (λ t h. no_tag t h, marks_within a rs nothing)

marks_shared : (r : Record) (rs : List Record) → records_in rs ≡ 0 → SharesNoTag r (held rs)
marks_shared r [] nothing = tt
marks_shared r (scalar t c n x ∷ rs) nothing = cc
marks_shared r (scope h inner ∷ rs) nothing = cc
marks_shared r (open_type n own ∷ rs) nothing = cc
marks_shared r (presence_mark m ∷ rs) nothing = (λ t one other. no_tag t other, marks_shared r rs nothing)

mark_shares : (m : PresenceMark) (rs : List Record) → SharesNoTag (presence_mark m) (held rs)
mark_shares m [] = tt
mark_shares m (r ∷ rs) = (λ t one other. no_tag t one, mark_shares m rs)

marks_distinct : (rs : List Record) → records_in rs ≡ 0 → HaveDistinctTags (held rs)
marks_distinct [] nothing = tt
marks_distinct (scalar t c n x ∷ rs) nothing = cc
marks_distinct (scope h inner ∷ rs) nothing = cc
marks_distinct (open_type n own ∷ rs) nothing = cc
marks_distinct (presence_mark m ∷ rs) nothing = (mark_shares m rs, marks_distinct rs nothing)

no_more : (n : ℕ) → suc n ≤ 1 → n ≡ 0
no_more n few = omega (arith, few)

-- one record among presence marks
one_distinct : (rs : List Record) → records_in rs ≤ 1 → HaveDistinctTags (held rs)
one_distinct [] few = tt
one_distinct (scalar t c n x ∷ rs) few = (marks_shared (scalar t c n x) rs (no_more _ few), marks_distinct rs (no_more _ few))
one_distinct (scope h inner ∷ rs) few = (marks_shared (scope h inner) rs (no_more _ few), marks_distinct rs (no_more _ few))
one_distinct (open_type n own ∷ rs) few = (marks_shared (open_type n own) rs (no_more _ few), marks_distinct rs (no_more _ few))
one_distinct (presence_mark m ∷ rs) few = (mark_shares m rs, one_distinct rs few)

one_within : (a : Tags) (rs : List Record) → records_in rs ≤ 1 → (presence_marks_alone rs ≡ true) ⊎ LiesIn (first_tags rs) a → AllWithin a (held rs)
one_within a [] few fits = tt
one_within a (scalar t c n x ∷ rs) few (inl alone) = cc
one_within a (scalar t c n x ∷ rs) few (inr lies) = (lies, marks_within a rs (no_more _ few))
one_within a (scope h inner ∷ rs) few (inl alone) = cc
one_within a (scope h inner ∷ rs) few (inr lies) = (lies, marks_within a rs (no_more _ few))
one_within a (open_type n own ∷ rs) few (inl alone) = cc
one_within a (open_type n own ∷ rs) few (inr lies) = (lies, marks_within a rs (no_more _ few))
one_within a (presence_mark m ∷ rs) few fits = (λ t h. no_tag t h, one_within a rs few fits)

component_within : {V : Type 0} (c : ComponentType V) (v : V) → c.IsWellTagged → records_in (c.records v) ≤ 1 → AllWithin (tree_tags c.tree) (held (c.records v))
component_within c v can few = one_within (tree_tags c.tree) (c.records v) few (by (c.fits can v))
  where
    by : Fits c.presence c.tree (c.records v) → (presence_marks_alone (c.records v) ≡ true) ⊎ LiesIn (first_tags (c.records v)) (tree_tags c.tree)
    by (inl begins) = inr begins.within
    by (inr absent) = inl absent.1

shares_append : (r : Record) (rs ss : List Record) → SharesNoTag r (held rs) → SharesNoTag r (held ss) → SharesNoTag r (held (rs ++ ss))
shares_append r [] ss first later = later
shares_append r (s ∷ rs) ss first later = (first.0, shares_append r rs ss first.1 later)

-- a record of tags that the others do not have
apart_from_all : (r : Record) (a b : Tags) (rs : List Record) → ShareNone a b → LiesIn (record_tags r) a → AllWithin b (held rs) → SharesNoTag r (held rs)
apart_from_all r a b [] apart lies within = tt
apart_from_all r a b (s ∷ rs) apart lies within = (
  λ t one other. apart t (lies_has (record_tags r) a lies t one) (lies_has (record_tags s) b within.0 t other),
  apart_from_all r a b rs apart lies within.1,
)

apart_from_components : {V : Type 0} (r : Record) (tree : Tree) (cs : List (ComponentType V)) (v : V) → ApartFromEach tree cs → EachIsWellTagged cs → EachIsOneRecord cs v →
    LiesIn (record_tags r) (tree_tags tree) → SharesNoTag r (held (all_records cs v))
apart_from_components r tree [] v apart can one lies = tt
apart_from_components r tree (c ∷ cs) v apart can one lies =
    shares_append r (c.records v) (all_records cs v)
    (apart_from_all r (tree_tags tree) (tree_tags c.tree) (c.records v) apart.0 lies (component_within c v can.0 one.0))
    (apart_from_components r tree cs v apart.1 can.1 one.1 lies)

before_others : (a : Tags) (rs ss : List Record) → AllWithin a (held rs) → HaveDistinctTags (held rs) →
    ((r : Record) → LiesIn (record_tags r) a → SharesNoTag r (held ss)) → HaveDistinctTags (held ss) → HaveDistinctTags (held (rs ++ ss))
before_others a [] ss within own each later = later
before_others a (r ∷ rs) ss within own each later =
    (shares_append r rs ss own.0 (each r within.0), before_others a rs ss within.1 own.1 each later)

-- the components of a SET, of which no two can begin with one tag
set_tags : {V : Type 0} (cs : List (ComponentType V)) (v : V) → AllApart cs → EachIsWellTagged cs → EachIsOneRecord cs v → HaveDistinctTags (held (all_records cs v))
set_tags [] v apart can one = tt
set_tags (c ∷ cs) v apart can one =
    before_others (tree_tags c.tree) (c.records v) (all_records cs v) (component_within c v can.0 one.0) (one_distinct (c.records v) one.0)
    (λ r lies. apart_from_components r c.tree cs v apart.0 can.1 one.1 lies) (set_tags cs v apart.1 can.1 one.1)

-- the same records without their presence marks
shares_without : (r : Record) (rs : List Record) → SharesNoTag r (held rs) → SharesNoTag r (held (unmarked rs))
shares_without r [] shares = tt
shares_without r (scalar t c n x ∷ rs) shares = (shares.0, shares_without r rs shares.1)
shares_without r (scope h inner ∷ rs) shares = (shares.0, shares_without r rs shares.1)
shares_without r (open_type n own ∷ rs) shares = (shares.0, shares_without r rs shares.1)
shares_without r (presence_mark m ∷ rs) shares = shares_without r rs shares.1

shares_with : (r : Record) (rs : List Record) → SharesNoTag r (held (unmarked rs)) → SharesNoTag r (held rs)
shares_with r [] shares = tt
shares_with r (scalar t c n x ∷ rs) shares = (shares.0, shares_with r rs shares.1)
shares_with r (scope h inner ∷ rs) shares = (shares.0, shares_with r rs shares.1)
shares_with r (open_type n own ∷ rs) shares = (shares.0, shares_with r rs shares.1)
shares_with r (presence_mark m ∷ rs) shares = (λ t one other. no_tag t other, shares_with r rs shares)

without_marks : (rs : List Record) → HaveDistinctTags (held rs) → HaveDistinctTags (held (unmarked rs))
without_marks [] distinct = tt
without_marks (scalar t c n x ∷ rs) distinct = (shares_without (scalar t c n x) rs distinct.0, without_marks rs distinct.1)
without_marks (scope h inner ∷ rs) distinct = (shares_without (scope h inner) rs distinct.0, without_marks rs distinct.1)
without_marks (open_type n own ∷ rs) distinct = (shares_without (open_type n own) rs distinct.0, without_marks rs distinct.1)
without_marks (presence_mark m ∷ rs) distinct = without_marks rs distinct.1

with_marks : (rs : List Record) → HaveDistinctTags (held (unmarked rs)) → HaveDistinctTags (held rs)
with_marks [] distinct = tt
with_marks (scalar t c n x ∷ rs) distinct = (shares_with (scalar t c n x) rs distinct.0, with_marks rs distinct.1)
with_marks (scope h inner ∷ rs) distinct = (shares_with (scope h inner) rs distinct.0, with_marks rs distinct.1)
with_marks (open_type n own ∷ rs) distinct = (shares_with (open_type n own) rs distinct.0, with_marks rs distinct.1)
with_marks (presence_mark m ∷ rs) distinct = (mark_shares m rs, with_marks rs distinct)

-- a component with the records of another
same_distinct : {V : Type 0} (c d : ComponentType V) → SameComponent c d → IsDistinct d → IsDistinct c
same_distinct c d same own can v = subst AreDistinct (sym (same.0 v).4) (own ((same.0 v).0 can) v)

module _ {S V : Type 0} where
  slots_distinct : (cs : List (ComponentType V)) (hs : List (Slot S V)) → AreSlotsOf cs hs → EachCanBeDistinct hs → EachIsDistinct cs
  slots_distinct [] [] are each = tt
  slots_distinct [] (h ∷ hs) are each = absurd are
  slots_distinct (c ∷ cs) [] are each = absurd are
  slots_distinct (c ∷ cs) (h ∷ hs) are each = (same_distinct c h.component are.0 (h.distinct each.0), slots_distinct cs hs are.1 each.1)

  -- the components of a SET in any of its values, whose parts have distinct tags
  pub set_of_slots_distinct : (cs : List (ComponentType V)) (hs : List (Slot S V)) → AreSlotsOf cs hs → can_be_in_set hs ≡ true → EachIsWellTagged cs → AreDistinctInSet cs → (v : V) →
      HaveDistinctTags (held (all_records cs v))
  set_of_slots_distinct cs hs are ready can distinct v =
      let can_be = well_tagged_slots cs hs are v can in
      let apart = parts_apart hs ready (distinct_slots cs hs are distinct.1) (apart_slots cs hs are (set_apart cs distinct.0)) in
      let parts = set_tags (parts_of_slots hs) v apart (each_well_tagged hs ready can_be) (each_is_one hs ready can_be v) in
      with_marks (all_records cs v)
      (subst (λ rs. HaveDistinctTags (held rs)) (sym (ap unmarked (records_slots cs hs are v) ∙ written_in_parts hs ready v))
      (without_marks (all_records (parts_of_slots hs) v) parts))

  -- A SEQUENCE, and a SET each of whose components can be read in one.
  pub type_distinct : (components : Components V) (layout : List (Slot S V)) (m : Meaning V) → IsLayoutOf components layout → AgreesWithComponents components m →
      EachCanBeDistinct layout → (components.kind ≡ is_set → can_be_in_set layout ≡ true) → SetsAreDistinct m
  type_distinct components layout m laid law each ready =
      let are = slots_of_type components layout laid in
      constructed_distinct components m law (slots_distinct (all_components components) layout are each)
      (λ kind well v. set_of_slots_distinct (all_components components) layout are (ready kind) well.0 (of_set components.kind kind well.2) v)
    where
      of_set : (k : Kind) → k ≡ is_set → AreDistinctIn k (all_components components) → AreDistinctInSet (all_components components)
      of_set k is distinct = subst (λ l. AreDistinctIn l (all_components components)) is distinct
