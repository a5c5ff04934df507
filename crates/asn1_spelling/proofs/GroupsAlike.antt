-- Groups of additions whose equal values are written alike, and in which the components of each SET have distinct tags.
use Rattle.std.proofs.Common.{◌≡◌, ◌∙◌, Bool, true, List, [], ◌∷◌, sym}
use Rattle.asn1_components.proofs.DistinctSets.{all_distinct}
use Rattle.asn1_components.proofs.WrittenAlike.{all_alike}
use Rattle.asn1_components.specs.ComponentLists.{EachIsWellTagged, all_records}
use Rattle.asn1_components.specs.DistinctSets.{EachIsDistinct}
use Rattle.asn1_components.specs.WrittenAlike.{EachIsAlike, all_equal}
use Rattle.asn1_model.specs.DistinctSets.{AreDistinct}
use Rattle.asn1_model.specs.WrittenAlike.{HaveSameRecords}
use Rattle.asn1_slots.specs.Slots.{EachCanBeAlike, EachCanBeDistinct, Slot, comparisons, components_of}

module _ {S V : Type 0} where
  each_alike : (hs : List (Slot S V)) → EachCanBeAlike hs → EachIsAlike (components_of hs) (comparisons hs)
  each_alike [] each = tt
  each_alike (h ∷ hs) each = (h.alike each.0, each_alike hs each.1)

  each_distinct : (hs : List (Slot S V)) → EachCanBeDistinct hs → EachIsDistinct (components_of hs)
  each_distinct [] each = tt
  each_distinct (h ∷ hs) each = (h.distinct each.0, each_distinct hs each.1)

  -- what is asked of a group as a component
  pub group_alike : (hs : List (Slot S V)) (eq : V → V → Bool) → EachCanBeAlike hs → ((v w : V) → eq v w ≡ all_equal (comparisons hs) v w) →
      EachIsWellTagged (components_of hs) → HaveSameRecords eq (all_records (components_of hs))
  group_alike hs eq each compared well v w same = all_alike (components_of hs) (comparisons hs) (each_alike hs each) well v w (sym (compared v w) ∙ same)

  pub group_distinct : (hs : List (Slot S V)) → EachCanBeDistinct hs → EachIsWellTagged (components_of hs) → (v : V) → AreDistinct (all_records (components_of hs) v)
  group_distinct hs each well v = all_distinct (components_of hs) (each_distinct hs each) well v
