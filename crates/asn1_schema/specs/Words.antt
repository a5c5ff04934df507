-- The words for authors of types: the meaning of a type, and the steps of a reader's proof.

-- tags, and types under tags (X.680, 31)
pub use Rattle.asn1_types.specs.Words.{universal, application, context, private, untagged, tagged, explicitly_tagged, explicitly_tagged_as}
-- the components of a SEQUENCE or a SET (25 and 27)
pub use Rattle.asn1_types.specs.Words.{required, optional, with_default, addition, addition_with_default}
pub use Rattle.asn1_types.specs.Words.{rows, group, sequence, extensible_sequence, set, extensible_set}
-- the same, each with the slot into which it is read
pub use Rattle.asn1_slots.specs.Slots.{required_slot, optional_slot, default_slot, empty_list_slot, addition_slot, addition_with_default_slot, addition_with_empty_list_slot, group_slot}
pub use Rattle.asn1_slots.specs.GroupsInSets.{group_in_set}
pub use Rattle.asn1_slots.specs.Slots.{sequence_of_slots, extensible_sequence_after, set_of_slots, extensible_set_after}
-- the type of a component under constraints of its own
pub use Rattle.asn1_slots.specs.Taggings.{under_constraints}
-- its meaning; one whose own tag is not that of its kind, as [APPLICATION 0] SEQUENCE, is `constructed_type_under` that tag
pub use Rattle.asn1_types.specs.Words.{constructed_type, constructed_type_under, constructed_agrees}
-- the alternatives of a CHOICE (29), and which of them a value is
pub use Rattle.asn1_types.specs.Words.{table_of, inl, inr, alternative, closed_choice, extensible_choice, choice_of, choice_agrees}
-- the same, each with the variant that makes a value of it
pub use Rattle.asn1_slots.specs.Cases.{variant, choice_of_cases, extensible_choice_after}
-- the items of an ENUMERATED type (20)
pub use Rattle.asn1_types.specs.Words.{item, items_of, by_test, closed_enumeration, extensible_enumeration, labels_of, enumeration_type, enumeration_agrees}
-- that a type is well tagged, and the records of a value
pub use Rattle.asn1_types.specs.Words.{IsWellTagged, IsWellTaggedUnder, own_records}
pub use Rattle.asn1_types.specs.Words.{holding, scalar, open_type, presence_mark, null, boolean, number, discriminant, arcs, bits, units, octet, utf8, visible, general, graphic, ia5, printable, numeric, teletex, bmp}
pub use Rattle.asn1_types.specs.Words.{sequence_head, set_head, sequence_of, set_of, explicit_tag, alternative_head}
pub use Rattle.asn1_types.specs.Words.{in_root, in_additions, present, absent, group_start, group_absent, group_end}
-- the constraints in records
pub use Rattle.asn1_types.specs.Words.{unconstrained, values_of, size_of, characters_of, Range}
-- a string with constraints (51.5 and 51.7)
pub use Rattle.asn1_schema.specs.RestrictedStrings.{restricted_type, sizes_of, with_characters}
-- a CHOICE that holds itself
pub use Rattle.asn1_components.specs.Alternatives.{Alternatives, OneOf, MeansTheSame, ValueMeaning, all_of, chosen_meaning, means_itself, value_meaning}
pub use Rattle.asn1_components.specs.ChoiceTypes.{alternatives_with_itself, choice_holding_itself, inside_itself, itself_agrees, itself_under, table_with_itself}
pub use Rattle.asn1_nesting.specs.InsideItself.{eq_in_box, in_box, its_cases, itself_inside}
pub use Rattle.asn1_components.specs.UntaggedItself.{MeaningWithin, alternatives_with_untagged_itself, choice_holding_untagged_itself, trees_with_itself, untagged_inside_itself}
-- the proof of a reader: the components that are read in their order, and the parts of a SET
pub use Rattle.asn1_components.specs.Components.{all_components}
pub use Rattle.asn1_laws.proofs.ReadingComponents.{begin, step, stops, through}
pub use Rattle.asn1_laws.specs.SetParts.{EachFits, MakesValue}
