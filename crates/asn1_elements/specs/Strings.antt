-- Strings that were read of contents octets.
use Rattle.std.specs.Prelude.{◌≡◌, ℕ, Bool, List}
use Rattle.asn1_der_items.specs.Contents.{HasContents}
use Rattle.asn1_items.specs.Bits.{AreBits}
use Rattle.asn1_model.specs.Records.{Content}
use Rattle.asn1_types.specs.AnyStrings.{IsStringOf, content_kind_of, content_of_string, content_read}
use Rattle.asn1_types.specs.declared.any_string.AnyString.{AnyString}
use Rattle.asn1_types.specs.declared.any_string.StringKind.{StringKind}
use Rattle.asn1_values.specs.Bits.{without_trailing_zeros}

-- The octets are those of a string of the kind, and this is what is read of it.
pub record IsReadOfString (kind : StringKind) (string : AnyString) (octets : List ℕ) : Type 0 where
  pub content : Content
  pub is_string : IsStringOf (content_kind_of kind) content
  pub has : HasContents content octets
  pub read_as : content_read kind content ≡ content_of_string string

-- The octets are bits, and these are the same without the 0 bits at their end (X.680, 22.7).
pub record IsReadOfBits (bits : List Bool) (octets : List ℕ) : Type 0 where
  pub list : List Bool
  pub are : AreBits list octets
  pub read_as : without_trailing_zeros list ≡ bits
