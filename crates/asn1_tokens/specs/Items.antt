-- Lexical items, each as X.680 defines its kind.
use Rattle.std.specs.Prelude.{◌≡◌, ◌≢◌, ◌<◌, ◌≤◌, ℕ, Bool, true, false, ◌&&◌, ◌==◌, List, [], ◌∷◌, ◌++◌, length, drop, slice_index, Option, Some, None, if◌then◌else◌, ⊤}
use Rattle.std.specs.List.{list_all}
use Rattle.std.specs.Char.{is_ascii_digit, is_ascii_uppercase, is_ascii_lowercase}
use Rattle.asn1_tokens.specs.declared.kind.TokenKind.{TokenKind}
use Rattle.asn1_tokens.specs.declared.kind.TokenKind.TheVariants.{TypeReference, Identifier, ReservedWord, Number, BinaryString, HexString, CharacterString, Symbol}
use Rattle.asn1_tokens.specs.Characters.{first, quotation_mark, apostrophe, is_in_name, is_binary_character, is_hex_character}
use Rattle.asn1_tokens.specs.Words.{is_reserved, is_symbol}

-- Letters, digits and hyphens. A hyphen is not the last character, and no hyphen follows another (12.2.1).
abbrev pub is_spelled_as_name : List ℕ → Bool
is_spelled_as_name [] = true
is_spelled_as_name (c ∷ rest) = is_in_name c (first rest) && is_spelled_as_name rest

-- A name that begins with an upper-case letter, and no reserved word (12.2).
abbrev pub IsTypeReference : List ℕ → Type 0
IsTypeReference item = (is_ascii_uppercase (first item) ≡ true) × (is_spelled_as_name item ≡ true) × (is_reserved item ≡ false)

-- A name that begins with a lower-case letter (12.3).
abbrev pub IsIdentifier : List ℕ → Type 0
IsIdentifier item = (is_ascii_lowercase (first item) ≡ true) × (is_spelled_as_name item ≡ true)

abbrev pub IsReservedWord : List ℕ → Type 0
IsReservedWord item = is_reserved item ≡ true

-- One or more digits, of which the first is a zero only if it is the last too (12.8).
abbrev pub IsNumber : List ℕ → Type 0
IsNumber item = (0 < length item) × (list_all is_ascii_digit item ≡ true) × (first item ≡ 48 → length item ≡ 1)

-- Zeros, ones and white space between apostrophes, and a B (12.10).
abbrev pub IsBinaryString : List ℕ → Type 0
IsBinaryString item = (body : List ℕ) × (item ≡ apostrophe ∷ (body ++ apostrophe ∷ 66 ∷ [])) × (list_all is_binary_character body ≡ true)

-- Hexadecimal digits and white space between apostrophes, and an H (12.12).
abbrev pub IsHexString : List ℕ → Type 0
IsHexString item = (body : List ℕ) × (item ≡ apostrophe ∷ (body ++ apostrophe ∷ 72 ∷ [])) × (list_all is_hex_character body ≡ true)

-- A quotation mark that is not one of a pair ends a cstring. This is the text after it, for the text after the first
-- quotation mark. The flag tells that the next character is the second of a pair.
abbrev pub after_quotation : Bool → List ℕ → Option (List ℕ)
after_quotation second [] = None
after_quotation true (c ∷ rest) = after_quotation false rest
after_quotation false (c ∷ rest) =
    if c == quotation_mark then (if first rest == quotation_mark then after_quotation true rest else Some rest)
    else after_quotation false rest

-- Characters between quotation marks. A quotation mark among them is written as a pair (12.14).
abbrev pub IsCharacterString : List ℕ → Type 0
IsCharacterString item = (first item ≡ quotation_mark) × (after_quotation false (drop 1 item) ≡ Some [])

abbrev pub IsSymbol : List ℕ → Type 0
IsSymbol item = is_symbol item ≡ true

-- an item of a kind
abbrev pub IsItem : TokenKind → List ℕ → Type 0
IsItem TypeReference = IsTypeReference
IsItem Identifier = IsIdentifier
IsItem ReservedWord = IsReservedWord
IsItem Number = IsNumber
IsItem BinaryString = IsBinaryString
IsItem HexString = IsHexString
IsItem CharacterString = IsCharacterString
IsItem Symbol = IsSymbol

-- Neither a letter, a digit, nor a hyphen before one.
abbrev pub EndsName : List ℕ → Type 0
EndsName after = is_in_name (first after) (slice_index after 1) ≡ false

-- The text begins with an item of which this holds, and another text follows.
abbrev pub Splits : (List ℕ → Type 0) → List ℕ → List ℕ → Type 0
Splits Holds text after = (item : List ℕ) × (text ≡ item ++ after) × Holds item

-- No item of which this holds, and with which the text begins, leaves less of the text.
abbrev pub LeavesLeast : (List ℕ → Type 0) → List ℕ → List ℕ → Type 0
LeavesLeast Holds text after = (rest : List ℕ) → Splits Holds text rest → length after ≤ length rest

-- The item of the kind with which the text begins could not be longer: what follows does not go on with it, and no longer
-- symbol begins there (12.20 to 12.24, 12.37). The letter behind the second apostrophe ends a bstring and an hstring.
abbrev pub EndsItem : TokenKind → List ℕ → List ℕ → Type 0
EndsItem TypeReference = λ text after. EndsName after
EndsItem Identifier = λ text after. EndsName after
EndsItem ReservedWord = λ text after. EndsName after
EndsItem Number = λ text after. is_ascii_digit (first after) ≡ false
EndsItem BinaryString = λ text after. ⊤
EndsItem HexString = λ text after. ⊤
EndsItem CharacterString = λ text after. first after ≢ quotation_mark
EndsItem Symbol = LeavesLeast IsSymbol

-- The text after the letters, digits and hyphens of a name.
abbrev pub after_name : List ℕ → List ℕ
after_name [] = []
after_name (c ∷ rest) = if is_in_name c (first rest) then after_name rest else c ∷ rest
