-- The words for types that hold themselves: their meaning, and the steps of its laws.

-- a knot, by its generic type
pub use Rattle.asn1_circles.specs.Knots.{IsMadeOf}
pub use Rattle.asn1_circles.specs.KnotMeanings.{KnotLaws, KnotOf, choice_itself, choice_itself_is_read, choice_knot, inner, knot_is_made, knot_meaning, knot_trees, read_level, sequence_is_made, sequence_itself, sequence_itself_is_read, sequence_knot, sequence_knot_meaning, type_level, valid_level, valid_to, write_choice, write_sequence, written, written_value}
-- what holds at every depth, and at some; and the records of parts
pub use Rattle.asn1_circles.specs.KnotMeanings.{both_at_all, each_by, if_some_by, itself_at_all, list_by, of_first, of_some, same_at_all, with_one}
pub use Rattle.asn1_circles.specs.KnotReadings.{ReadAtSome, choice_at_some, elements_at_some, in_turn_at_some, inside_at_some, option_at_some, same_read}
pub use Rattle.asn1_circles.specs.KnotMeanings.{list_meaning, set_meaning}
pub use Rattle.std.specs.Global.{Vec}
pub use Rattle.std.proofs.Common.{inl, inr}
pub use Rattle.std.proofs.lemmas.List.Folds.{flat_map-map}
-- a reader
pub use Rattle.asn1_circles.specs.Readers.{ReadsAs, said}
pub use Rattle.asn1_laws.specs.Reading.{AfterReading, Reader, ReadsValue}
pub use Rattle.asn1_laws.specs.ReadingExactly.{HasReadValue}
pub use Rattle.asn1_laws.specs.declared.decode_error.DecodeError.{DecodeError}
-- the lists of types and their meaning
pub use Rattle.asn1_components.specs.Alternatives.{Alternatives, MeansTheSame, OneOf, all_of, alternative, chosen_meaning, closed, extensible, table_of}
pub use Rattle.asn1_components.specs.ChoiceTypes.{choice_of}
pub use Rattle.asn1_components.specs.ComponentTypes.{ComponentType, addition, addition_with_default, optional, required, with_default}
pub use Rattle.asn1_components.specs.Components.{Components, ComponentsAreRead, component_records, constructed_type, constructed_type_under, extensible_sequence, head_of_kind, is_sequence, rows, sequence}
pub use Rattle.asn1_model.specs.ConstraintSets.{constraint_set, unconstrained}
pub use Rattle.asn1_model.specs.Meaning.{IsWellTagged, Meaning, own_records}
pub use Rattle.asn1_model.specs.Records.{Record, explicit_tag, in_additions, in_root, sequence_of, set_of}
pub use Rattle.asn1_model.specs.TaggedTypes.{explicitly_tagged, tagged, untagged}
pub use Rattle.asn1_model.specs.Tags.{Has, application, context, first_tag, private, tree_tags, universal}
pub use Rattle.asn1_tags.specs.Names.{name_of}
pub use Rattle.asn1_tags.specs.Trees.{choice}
pub use Rattle.asn1_tags.specs.declared.tags.Tag.{Tag}
