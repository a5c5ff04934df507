pub mod Trees
-- the lemmas of the crates below
pub use Rattle.asn1_bounds.proofs as bound_lemmas
pub use Rattle.asn1_laws.proofs as law_lemmas
pub use Rattle.asn1_components.proofs as component_lemmas
pub use Rattle.asn1_fields.proofs as field_lemmas
pub use Rattle.asn1_model.proofs as model_lemmas
pub use Rattle.asn1_nesting.proofs as nesting_lemmas
pub use Rattle.asn1_open.proofs as open_value_lemmas
pub use Rattle.asn1_ranges.proofs as range_lemmas
pub use Rattle.asn1_rules.proofs as rule_lemmas
pub use Rattle.asn1_tags.proofs as tag_lemmas
pub use Rattle.asn1_types.proofs as type_lemmas
pub use Rattle.asn1_values.proofs as value_lemmas
