-- Numbers of DER as text.
use Rattle.std.specs.Prelude.{◌≡◌, ℕ, ℤ, List}
use Rattle.asn1_der_items.specs.Integers.{IsInteger}
use Rattle.asn1_values.specs.Text.{integer_text}

-- The octets are the contents octets of a number (X.690, 8.3), and this is its text.
pub record IsNumberText (octets text : List ℕ) : Type 0 where
  pub number : ℤ
  pub is : IsInteger number octets
  pub are : text ≡ integer_text number
