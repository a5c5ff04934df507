-- Calls that read the components of a SEQUENCE or a group into their slots.
use Rattle.std.specs.Prelude.{◌++◌, List, MatchResult, Result, length}
use Rattle.asn1_laws.specs.Reading.{HasAdvanced, MayFail, Outside, Reader}
use Rattle.asn1_components.specs.ComponentLists.{CanBeInSequence, EachIsOfType, EachIsValid}
use Rattle.asn1_components.specs.Components.{Components, all_components, component_records}
use Rattle.asn1_components.specs.Following.{EndsApart}
use Rattle.asn1_model.specs.Records.{Record, highest}
use Rattle.asn1_slots.specs.Slots.{HoldBefore, Slot}
use Rattle.asn1_slots.specs.declared.by_index.NotRead.{NotRead}

-- A call that reads the components of a SEQUENCE or a group into these slots: of each value that is
-- of the type and valid, each slot holds what the value has. The records after them begin with no
-- tag of those after the last required component. The error of a component is one that a call
-- may answer there.
abbrev pub ReadsSlots : {D S V : Type 0} → Reader D → Components V → List (Slot S V) → D → D →
    Result S NotRead → Type 0
ReadsSlots {V = V} R components slots old new result =
    (v : V) (rest : List Record) (outer : Outside) →
    CanBeInSequence (all_components components) → EachIsOfType (all_components components) v →
    EachIsValid (all_components components) R.accepts v → EndsApart (all_components components) rest →
    R.remains old (component_records components v ++ rest, outer) →
    MatchResult result
    (λ s. HasAdvanced R old new (highest (component_records components v)) (rest, outer) (HoldBefore slots (length slots) s v))
    (λ failure. MayFail (R.depth_left old) (highest (component_records components v)) failure.error)
