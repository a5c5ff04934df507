-- The characters that units are.
use Rattle.std.proofs.Common.{◌≡◌, ◌∙◌, ℕ, Bool, IsUtf8, List, None, Option, Some, chars, encode_utf8_all, false, refl, sym, true}
use Rattle.std.proofs.lemmas.Str.{chars_from_encodes}
use Rattle.std.proofs.Math.Utf8.{scalar}
use Rattle.std.specs.Char.{IsScalar}
use Rattle.std.specs.Option.{SomeIff, unwrap_or}
use Rattle.std.specs.Prelude.{if◌then◌else◌}
use Rattle.asn1_certificate_reader.specs.Characters.{teletex_character}

-- a choice, by the test
chosen : (b : Bool) (m n : ℕ) → b ≡ true → (if b then m else n) ≡ m
chosen true m n is = refl
chosen false m n is = cc

not_chosen : (b : Bool) (m n : ℕ) → (b ≡ true → ⊥) → (if b then m else n) ≡ n
not_chosen true m n not = absurd (not refl)
not_chosen false m n not = refl

-- the replacement of a number that is that of no character
pub character_or_replacement : (unit : ℕ) (o : Option ℕ) → SomeIff o (IsScalar unit) unit → unwrap_or o 0xFFFD ≡ teletex_character unit
character_or_replacement unit None none = sym (not_chosen (scalar unit) unit 0xFFFD none)
character_or_replacement unit (Some c) is = is.1 ∙ sym (chosen (scalar unit) unit 0xFFFD is.0)

-- the characters of a text that was made of these
pub characters_made : (text cs characters : List ℕ) → IsUtf8 text → text ≡ encode_utf8_all cs → characters ≡ chars text → characters ≡ cs
characters_made text cs characters utf8 made are = are ∙ sym (chars_from_encodes cs text utf8 (sym made))
