-- Types that are read into slots, and whose equal values are written alike.
use Rattle.std.proofs.Common.{◌≡◌, Bool, true, List, [], ◌∷◌, subst, sym}
use Rattle.asn1_model.specs.Meaning.{Meaning}
use Rattle.asn1_model.specs.Orders.{SameRecords}
use Rattle.asn1_model.specs.WrittenAlike.{AreWrittenAlike}
use Rattle.asn1_components.proofs.WrittenAlike.{constructed_alike}
use Rattle.asn1_components.specs.ComponentTypes.{ComponentType}
use Rattle.asn1_components.specs.Components.{AgreesWithComponents, Components, all_components}
use Rattle.asn1_components.specs.WrittenAlike.{EachIsAlike, IsAlike, all_equal}
use Rattle.asn1_slots.proofs.Layouts.{slots_of_type}
use Rattle.asn1_slots.specs.Slots.{AreSlotsOf, EachCanBeAlike, IsLayoutOf, SameComponent, Slot, comparisons}

-- a component with the records of another
same_alike : {V : Type 0} (c d : ComponentType V) (eq : V → V → Bool) → SameComponent c d → IsAlike d eq → IsAlike c eq
same_alike c d eq same alike can v w equal =
    subst (λ rs. SameRecords rs (c.records w)) (sym (same.0 v).4)
    (subst (SameRecords (d.records v)) (sym (same.0 w).4) (alike ((same.0 v).0 can) v w equal))

module _ {S V : Type 0} where
  -- the components of a type, by its slots
  slots_alike : (cs : List (ComponentType V)) (hs : List (Slot S V)) → AreSlotsOf cs hs → EachCanBeAlike hs → EachIsAlike cs (comparisons hs)
  slots_alike [] [] are each = tt
  slots_alike [] (h ∷ hs) are each = absurd are
  slots_alike (c ∷ cs) [] are each = absurd are
  slots_alike (c ∷ cs) (h ∷ hs) are each = (same_alike c h.component h.equal are.0 (h.alike each.0), slots_alike cs hs are.1 each.1)

  -- A type whose equality is that of its slots, one by one.
  pub type_alike : (components : Components V) (layout : List (Slot S V)) (m : Meaning V) (eq : V → V → Bool) → IsLayoutOf components layout →
      AgreesWithComponents components m → EachCanBeAlike layout → ((v w : V) → eq v w ≡ all_equal (comparisons layout) v w) → AreWrittenAlike m eq
  type_alike components layout m eq laid law each compared =
      constructed_alike components m (comparisons layout) law (slots_alike (all_components components) layout (slots_of_type components layout laid) each) compared
