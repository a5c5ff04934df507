-- How the type of a component is tagged (X.680, 31).
use Rattle.std.specs.Prelude.{Option, unwrap_or}
use Rattle.asn1_laws.specs.GivenTypes.{given}
use Rattle.asn1_model.specs.ConstraintSets.{ConstraintSet}
use Rattle.asn1_model.specs.Meaning.{Meaning}
use Rattle.asn1_model.specs.TaggedTypes.{TaggedType, explicitly_tagged, tagged, untagged}
use Rattle.asn1_tags.specs.declared.tags.Tag.{Tag}
use Rattle.asn1_slots.specs.declared.tagging.Tagging.{Tagging}
use Rattle.asn1_slots.specs.declared.tagging.Tagging.TheVariants.{Untagged, Tagged, Explicit}

-- the type as a component of this tagging has it
abbrev pub under : {W : Type 0} → Tagging → Meaning W → TaggedType W
under Untagged m = untagged m
under (Tagged t) m = tagged t m
under (Explicit t) m = explicitly_tagged t m

-- the type under these constraints, and this tag, or its own where none is given
abbrev pub under_constraints : {W : Type 0} → Option Tag → ConstraintSet → Meaning W → TaggedType W
under_constraints tag c m = given (unwrap_or tag m.tag) c m m.name
