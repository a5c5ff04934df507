-- of whole numbers
pub use Rattle.asn1_integers.proofs.Digits
pub use Rattle.asn1_integers.proofs.Signs
pub use Rattle.asn1_integers.proofs.Texts
-- of strings and names of objects
pub use Rattle.asn1_strings.proofs.AsciiTexts
pub use Rattle.asn1_strings.proofs.BitOctets
pub use Rattle.asn1_strings.proofs.DottedTexts
pub use Rattle.asn1_strings.proofs.OneBits
pub use Rattle.asn1_strings.proofs.TrailingZeros
