-- of whole numbers
pub use Rattle.asn1_integers.specs.Decimal
pub use Rattle.asn1_integers.specs.Integer
pub use Rattle.asn1_integers.specs.Numbers
pub use Rattle.asn1_integers.specs.Text
pub use Rattle.asn1_integers.specs.contracts as integer_contracts
-- of strings and names of objects
pub use Rattle.asn1_strings.specs.Alphabets
pub use Rattle.asn1_strings.specs.Bits
pub use Rattle.asn1_strings.specs.Dotted
pub use Rattle.asn1_strings.specs.Refusals
pub use Rattle.asn1_strings.specs.Shown
pub use Rattle.asn1_strings.specs.contracts as string_contracts
