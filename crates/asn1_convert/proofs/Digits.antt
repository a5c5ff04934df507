-- Hexadecimal digits, one after another.
use Rattle.std.proofs.Common.{◌≡◌, ◌<◌, ◌+◌, ◌*◌, ◌/◌, ◌%◌, ◌^◌, ℕ, zero, suc, Bool, true, false, not, ◌||◌, ◌&&◌, List, [], ◌∷◌, ◌++◌, Option, Some, None, ap, arith, cond, get_or, length, length-append, map, refl, subst, sym, take, ◌∙◌}
use Rattle.std.specs.Prelude.{IfSome, slice_get}
use Rattle.std.specs.Char.{is_ascii_hexdigit, is_ascii_whitespace, to_ascii_lowercase}
use Rattle.std.specs.Fmt.{digit_glyph, digits}
use Rattle.std.specs.List.{filter, flat_map, list_all}
use Rattle.std.proofs.lemmas.List.Elements.{All-head, All-push, All-tail, filter-append}
use Rattle.std.proofs.lemmas.List.{take_all, take_more}
use Rattle.std.proofs.lemmas.Option.{slice_get_past}
use Rattle.std.proofs.lemmas.Bool.Decides.{nat_tests}
use Rattle.std.specs.Int.{is_in_range}
use Rattle.std.proofs.lemmas.Bool.{and_parts}
use mathlib.Core.List.{append-nil, append_assoc, map-append}
use Rattle.std.proofs.lemmas.List.Concat.{flat_map-append}
use Rattle.std.proofs.lemmas.List.Folds.{list_all-append}
use Rattle.std.proofs.lemmas.Fmt.{hex_one_digit}
use Rattle.asn1_rules.specs.CanonicalReading.{AreOctets}
use Rattle.asn1_values.specs.Text.{byte_text}
use Rattle.asn1_convert.specs.Digits.{AreDigitsOf, IsFirstFault, digits_in, is_digit_or_space}

-- the digit that lacks its second
abbrev pub first_digit : Option ℕ → List ℕ
first_digit None = []
first_digit (Some value) = digit_glyph false value ∷ []

-- two digits are those of an octet
pub octet_of_digits : (high low : ℕ) → high < 16 → low < 16 → byte_text (high * 16 + low) ≡ digit_glyph false high ∷ digit_glyph false low ∷ []
octet_of_digits high low few less =
    let first : (high * 16 + low) / 16 ≡ high = omega arith in
    let second : (high * 16 + low) % 16 ≡ low = omega arith in
    rw (first, second, hex_one_digit false high few, hex_one_digit false low less) refl

-- an octet has two digits
two_digits : (octet : ℕ) → octet < 256 → byte_text octet ≡ digit_glyph false (octet / 16) ∷ digit_glyph false (octet % 16) ∷ []
two_digits octet small =
    let high : octet / 16 < 16 = omega arith in
    let low : octet % 16 < 16 = omega arith in
    ap (λ l. l ++ digits 16 false (octet % 16)) (hex_one_digit false (octet / 16) high)
    ∙ ap (λ l. digit_glyph false (octet / 16) ∷ l) (hex_one_digit false (octet % 16) low)

-- octets have an even number of digits
even : (octets : List ℕ) → AreOctets octets → length (flat_map byte_text octets) ≡ 2 * length octets
even [] all = refl
even (o ∷ os) all =
    let here = ap length (two_digits o (All-head (λ byte. byte < 2 ^ 8) o os all)) in
    omega (arith, here, length-append (byte_text o) (flat_map byte_text os), even os (All-tail (λ byte. byte < 2 ^ 8) o os all))

-- and no other digits have a last one alone
pub no_odd_digits : (text own : List ℕ) (value : ℕ) → AreOctets own → digits_in text ≡ flat_map byte_text own ++ digit_glyph false value ∷ [] →
    (octets : List ℕ) → AreOctets octets → AreDigitsOf octets text → ⊥
no_odd_digits text own value all are octets each same =
    let both : length (flat_map byte_text octets) ≡ length (flat_map byte_text own ++ digit_glyph false value ∷ []) = ap length (sym same ∙ are) in
    omega (arith, both, length-append (flat_map byte_text own) (digit_glyph false value ∷ []), even octets each, even own all)

-- a digit with a small letter
abbrev is_small_digit : ℕ → Bool
is_small_digit c = is_in_range 48 57 c || is_in_range 97 102 c

glyph_is_small : (value : ℕ) → value < 16 → is_small_digit (digit_glyph false value) ≡ true
glyph_is_small value few = grind (arith, nat_tests)

small_is_digit : (c : ℕ) → is_small_digit (to_ascii_lowercase c) ≡ true → is_ascii_hexdigit c ≡ true
small_is_digit c small = grind (arith, nat_tests)

-- the digits of octets are digits
digits_are_small : (octets : List ℕ) → AreOctets octets → list_all is_small_digit (flat_map byte_text octets) ≡ true
digits_are_small [] all = refl
digits_are_small (o ∷ os) all =
    let small = All-head (λ byte. byte < 2 ^ 8) o os all in
    let high : o / 16 < 16 = omega arith in
    let low : o % 16 < 16 = omega arith in
    rw (two_digits o small, glyph_is_small (o / 16) high, glyph_is_small (o % 16) low) (digits_are_small os (All-tail (λ byte. byte < 2 ^ 8) o os all))

-- a text whose digits these are has nothing else beside white space
by_space : (c : ℕ) (cs : List ℕ) (space : Bool) → is_ascii_whitespace c ≡ space →
    list_all is_small_digit (map to_ascii_lowercase (cond (not space) (c ∷ filter (λ c. not (is_ascii_whitespace c)) cs) (filter (λ c. not (is_ascii_whitespace c)) cs))) ≡ true →
    (is_digit_or_space c ≡ true) × (list_all is_small_digit (digits_in cs) ≡ true)
by_space c cs true is all = (rw is refl, all)
by_space c cs false is all =
    let parts = and_parts (is_small_digit (to_ascii_lowercase c)) (list_all is_small_digit (digits_in cs)) all in
    (rw (is, small_is_digit c parts.0) refl, parts.1)

all_are_digits : (text : List ℕ) → list_all is_small_digit (digits_in text) ≡ true → list_all is_digit_or_space text ≡ true
all_are_digits [] all = refl
all_are_digits (c ∷ cs) all =
    let parts = by_space c cs (is_ascii_whitespace c) refl all in
    rw (parts.0, all_are_digits cs parts.1) refl

-- so another character is in no such text
other_character : (text : List ℕ) (position c : ℕ) → slice_get text position ≡ Some c → is_digit_or_space c ≡ false → list_all is_digit_or_space text ≡ true → ⊥
other_character [] position c at other all = cc
other_character (x ∷ xs) zero c at other all =
    let parts = and_parts (is_digit_or_space x) (list_all is_digit_or_space xs) all in
    let here : is_digit_or_space x ≡ false = subst (λ y. is_digit_or_space y ≡ false) (let same : c ≡ x = cc in same) other in
    let one = parts.0 in cc
other_character (x ∷ xs) (suc position) c at other all =
    other_character xs position c at other (and_parts (is_digit_or_space x) (list_all is_digit_or_space xs) all).1

-- The text up to a position is digits and white space: those of octets, and of a first digit that lacks its second.
pub record AreReadTo (text : List ℕ) (position : ℕ) (octets : List ℕ) (high : Option ℕ) : Type 0 where
  pub below : IfSome high (λ value. value < 16)
  pub each : AreOctets octets
  pub before : list_all is_digit_or_space (take position text) ≡ true
  pub digits : digits_in (take position text) ≡ flat_map byte_text octets ++ first_digit high

module _ (text : List ℕ) (position : ℕ) (octets : List ℕ) (high : Option ℕ) (r : AreReadTo text position octets high) where
  -- a character that is none
  pub stops_at : (c : ℕ) → slice_get text position ≡ Some c → is_ascii_whitespace c ≡ false → is_ascii_hexdigit c ≡ false → IsFirstFault text position
  stops_at c at no_space no_digit =
      let other : is_digit_or_space c ≡ false = rw (no_space, no_digit) refl in
      record {
        none = λ own each same. other_character text position c at other (all_are_digits text (rw same (digits_are_small own each)));
        before = r.before;
        here = rw at other;
      }

  -- the end, behind a first digit
  pub ends_odd : (value : ℕ) → high ≡ Some value → position ≡ length text → IsFirstFault text position
  ends_odd value is end =
      let whole : take position text ≡ text = take_all position text (omega arith) in
      record {
        none = no_odd_digits text octets value r.each (ap digits_in (sym whole) ∙ (r.digits ∙ ap (λ h. flat_map byte_text octets ++ first_digit h) is));
        before = r.before;
        here = rw (slice_get_past text position (omega arith)) end;
      }

module _ (text : List ℕ) (c : ℕ) where
  -- white space adds nothing
  pub space_adds_nothing : is_ascii_whitespace c ≡ true → digits_in (text ++ c ∷ []) ≡ digits_in text
  space_adds_nothing is = rw (filter-append (λ c. not (is_ascii_whitespace c)) text (c ∷ []), is, append-nil)

  -- a digit is added
  pub digit_is_added : (value : ℕ) → is_ascii_whitespace c ≡ false → to_ascii_lowercase c ≡ digit_glyph false value →
      digits_in (text ++ c ∷ []) ≡ digits_in text ++ digit_glyph false value ∷ []
  digit_is_added value none is =
      rw (filter-append (λ c. not (is_ascii_whitespace c)) text (c ∷ []), none, map-append, is)

-- the digits of an octet
both_digits : (octets : List ℕ) (high low : ℕ) → high < 16 → low < 16 →
    (flat_map byte_text octets ++ digit_glyph false high ∷ []) ++ digit_glyph false low ∷ [] ≡ flat_map byte_text (octets ++ (high * 16 + low) ∷ []) ++ []
both_digits octets high low few less =
    simp (flat_map-append byte_text octets ((high * 16 + low) ∷ []), octet_of_digits high low few less, append-nil, append_assoc)

module _ (text : List ℕ) (position : ℕ) (octets : List ℕ) (within : position < length text) where
  -- the next character
  abbrev next : ℕ
  next = get_or text position 0

  module _ (value : ℕ) (few : value < 16) (no_space : is_ascii_whitespace next ≡ false) (digit : is_ascii_hexdigit next ≡ true) (is : to_ascii_lowercase next ≡ digit_glyph false value) where
    all_before : list_all is_digit_or_space (take position text) ≡ true → list_all is_digit_or_space (take (position + 1) text) ≡ true
    all_before before = rw (take_more text position 0 within, list_all-append is_digit_or_space (take position text) (next ∷ []), before, no_space, digit) refl

    more_digits : digits_in (take (position + 1) text) ≡ digits_in (take position text) ++ digit_glyph false value ∷ []
    more_digits = rw (take_more text position 0 within) (digit_is_added (take position text) next value no_space is)

    -- it is the first digit of an octet
    pub first_taken : AreReadTo text position octets None → AreReadTo text (position + 1) octets (Some value)
    first_taken r = record {
      below = few;
      each = r.each;
      before = all_before r.before;
      digits = more_digits ∙ ap (λ l. l ++ digit_glyph false value ∷ []) (r.digits ∙ append-nil (flat_map byte_text octets));
    }

    -- or the second
    pub second_taken : (high : ℕ) → AreReadTo text position octets (Some high) → AreReadTo text (position + 1) (octets ++ (high * 16 + value) ∷ []) None
    second_taken high r = record {
      below = tt;
      each = All-push (λ byte. byte < 2 ^ 8) octets (high * 16 + value) r.each (omega (arith, r.below, few));
      before = all_before r.before;
      digits = more_digits ∙ (ap (λ l. l ++ digit_glyph false value ∷ []) r.digits ∙ both_digits octets high value r.below few);
    }
