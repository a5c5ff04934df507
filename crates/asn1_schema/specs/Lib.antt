pub mod RestrictedStrings
pub mod TaggedStrings
pub mod Words
-- the definitions of the crates below, each under the name of its subject
pub use Rattle.asn1_bounds.specs as bounds
pub use Rattle.asn1_laws.specs as codec_laws
pub use Rattle.asn1_components.specs as components
pub use Rattle.asn1_fields.specs as fields
pub use Rattle.asn1_model.specs as model
pub use Rattle.asn1_nesting.specs as nesting
pub use Rattle.asn1_open.specs as open_values
pub use Rattle.asn1_ranges.specs as ranges
pub use Rattle.asn1_rules.specs as rules
pub use Rattle.asn1_slots.specs as slots
pub use Rattle.asn1_tags.specs as tags
pub use Rattle.asn1_types.specs as types
pub use Rattle.asn1_values.specs as values
