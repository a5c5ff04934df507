-- The reasons for which base64 in a text encodes no octets, and the byte of the text that an error names.
use Rattle.std.specs.Prelude.{◌≡◌, ◌+◌, ◌<◌, ℕ, List, Option, None, Some, Err, IsTrue, filter, length, slice_index, take}
use Rattle.base64.specs.Engines.{standard}
use Rattle.base64.specs.GeneralPurpose.{decode_of}
use Rattle.base64.specs.declared.decode.DecodeError.{DecodeError}
use Rattle.base64.specs.declared.decode.DecodeError.TheVariants.{InvalidByte, InvalidLength, InvalidLastSymbol, InvalidPadding}
use Rattle.asn1_certificate_text.specs.declared.pem.PemError.{PemError}
use Rattle.asn1_certificate_text.specs.declared.pem.PemError.TheVariants.{NoEnd, BadSymbol, NotWhole}
use Rattle.asn1_certificate_text.specs.PemLines.{is_symbol}

-- The body has a symbol at this position, and this many before it.
pub record IsPositionOfSymbol (body : List ℕ) (before position : ℕ) : Type 0 where
  pub inside : position < length body
  pub symbol : IsTrue (is_symbol (slice_index body position))
  pub symbols_before : length (filter is_symbol (take position body)) ≡ before

-- the symbol that an error of base64 is about, if it is about one, by the number of symbols before it
abbrev pub symbol_of : DecodeError → Option ℕ
symbol_of (InvalidByte symbol byte) = Some symbol
symbol_of (InvalidLength end) = None
symbol_of (InvalidLastSymbol symbol byte value) = Some symbol
symbol_of InvalidPadding = None

-- base64 refuses the symbol of the body at this position of the text
pub record HasBadSymbol (start : ℕ) (body : List ℕ) (position : ℕ) : Type 0 where
  pub error : DecodeError
  pub refused : decode_of standard (filter is_symbol body) ≡ Err error
  pub symbol : ℕ
  pub about : symbol_of error ≡ Some symbol
  pub position_in_body : ℕ
  pub at_position : IsPositionOfSymbol body symbol position_in_body
  pub in_text : position ≡ start + position_in_body

-- base64 refuses the body for its length or its padding, and the body ends at this position of the text
pub record IsNotWhole (start : ℕ) (body : List ℕ) (position : ℕ) : Type 0 where
  pub error : DecodeError
  pub refused : decode_of standard (filter is_symbol body) ≡ Err error
  pub about : symbol_of error ≡ None
  pub in_text : position ≡ start + length body

-- the error is about the base64 in a body, which begins at `start` in the text
abbrev pub IsAboutBase64 : ℕ → List ℕ → PemError → Type 0
IsAboutBase64 start body (NoEnd end) = ⊥
IsAboutBase64 start body (BadSymbol position) = HasBadSymbol start body position
IsAboutBase64 start body (NotWhole position) = IsNotWhole start body position
