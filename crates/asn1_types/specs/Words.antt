-- The words with which the author of a type says what it means, from one place.

-- tags, and types under tags (X.680, 31)
pub use Rattle.asn1_model.specs.Tags.{universal, application, context, private}
pub use Rattle.asn1_model.specs.TaggedTypes.{untagged, tagged, explicitly_tagged, explicitly_tagged_as}
-- the components of a SEQUENCE or a SET (25 and 27)
pub use Rattle.asn1_components.specs.ComponentTypes.{required, optional, with_default, addition, addition_with_default}
pub use Rattle.asn1_components.specs.Components.{rows, group, sequence, extensible_sequence, set, extensible_set, constructed_type, constructed_type_under, constructed_agrees}
-- the alternatives of a CHOICE (29), and which of them a value is
pub use Rattle.std.proofs.Common.{inl, inr}
pub use Rattle.asn1_components.specs.Alternatives.{table_of, alternative, closed as closed_choice, extensible as extensible_choice}
pub use Rattle.asn1_components.specs.ChoiceTypes.{choice_of, choice_agrees}
-- the items of an ENUMERATED type (20)
pub use Rattle.asn1_components.specs.EnumerationLaws.{by_test}
pub use Rattle.asn1_components.specs.ItemTables.{items_of}
pub use Rattle.asn1_components.specs.Enumerations.{item, closed as closed_enumeration, extensible as extensible_enumeration}
pub use Rattle.asn1_components.specs.Labels.{labels_of}
pub use Rattle.asn1_components.specs.EnumerationTypes.{enumeration_type, enumeration_agrees}
-- the meaning of a type: whether it is well tagged, and the records of a value
pub use Rattle.asn1_model.specs.Meaning.{IsWellTagged, IsWellTaggedUnder, own_records}
pub use Rattle.asn1_model.specs.Records.{holding, scalar, open_type, presence_mark, null, boolean, number, discriminant, arcs, bits, units, octet, utf8, visible, general, graphic, ia5, printable, numeric, teletex, bmp}
pub use Rattle.asn1_model.specs.Records.{sequence as sequence_head, set as set_head, sequence_of, set_of, explicit_tag, alternative as alternative_head}
pub use Rattle.asn1_model.specs.Records.{in_root, in_additions, present, absent, group_start, group_absent, group_end}
-- the constraints in records
pub use Rattle.asn1_model.specs.ConstraintSets.{unconstrained, values_of, size_of, characters_of}
pub use Rattle.asn1_ranges.specs.declared.bounded.Bounded.TheVariants.{Range}
