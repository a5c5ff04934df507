-- Texts of printable characters: their parts, digits, and escaped octets.
use Rattle.std.proofs.Common.{◌≡◌, ℕ, zero, suc, ◌+◌, ◌/◌, ◌%◌, ◌<◌, ◌≤◌, ◌==◌, ℤ, pos, negsuc, Bool, true, false, not, ◌&&◌, List, [], ◌∷◌, ◌++◌, cond, map, refl, ◌∙◌, arith}
use Rattle.std.specs.Prelude.{unsigned_abs}
use Rattle.std.specs.Fmt.{decimal, digit_glyph, digits, digits_onto, sign_text, signed_decimal}
use Rattle.std.specs.Int.{is_negative}
use Rattle.std.specs.Int.Digits.{AllBelowBase, digits_of}
use Rattle.std.specs.List.{flat_map, list_all}
use Rattle.std.proofs.lemmas.Bool.Decides.{nat_tests}
use Rattle.std.proofs.lemmas.Int.Digits.{all_below_base_digits_of}
use Rattle.std.proofs.lemmas.List.Folds.{list_all-append}
use Rattle.asn1_values.specs.Decimal.{decimal_digits}
use Rattle.asn1_values.specs.Text.{byte_text, integer_text, is_narrow}
use Rattle.asn1_ldap_text.specs.Escapes.{escaped_text, is_printable, is_special, octet_escaped, octet_text}
use Rattle.asn1_ldap_text.specs.declared.escapes.Place.{Place}

-- each character is printable
abbrev pub Printable : List ℕ → Type 0
Printable text = list_all is_printable text ≡ true

-- two tests that are passed
pub passed : (a b : Bool) → a ≡ true → b ≡ true → (a && b) ≡ true
passed true b p q = q
passed false b p q = p

-- the first of two tests that are passed
first_passed : (a b : Bool) → (a && b) ≡ true → a ≡ true
first_passed true b p = refl
first_passed false b p = p

-- one text, and then another
pub both : (a b : List ℕ) → Printable a → Printable b → Printable (a ++ b)
both a b p q = list_all-append is_printable a b ∙ passed (list_all is_printable a) (list_all is_printable b) p q

-- the texts of elements, one after another
pub each : {X : Type 0} (f : X → List ℕ) (xs : List X) → ((x : X) → Printable (f x)) → Printable (flat_map f xs)
each f [] h = refl
each f (x ∷ xs) h = both (f x) (flat_map f xs) (h x) (each f xs h)

-- one of two texts
pub either : (b : Bool) (x y : List ℕ) → Printable x → Printable y → Printable (cond b x y)
either true x y p q = p
either false x y p q = q

-- ---- digits

glyph_printable : (d : ℕ) → d < 16 → is_printable (digit_glyph false d) ≡ true
glyph_printable d low = grind (arith, nat_tests)

digits_onto_printable : (k base n : ℕ) (acc : List ℕ) → 0 < base → base ≤ 16 → Printable acc → Printable (digits_onto k base false n acc)
digits_onto_printable zero base n acc some few h = h
digits_onto_printable (suc k) base n acc some few h =
    let low : n % base < 16 = omega arith in
    let one = passed (is_printable (digit_glyph false (n % base))) (list_all is_printable acc) (glyph_printable (n % base) low) h in
    either (n / base == 0) (digit_glyph false (n % base) ∷ acc) (digits_onto k base false (n / base) (digit_glyph false (n % base) ∷ acc)) one
    (digits_onto_printable k base (n / base) (digit_glyph false (n % base) ∷ acc) some few one)

digits_printable : (base n : ℕ) → 0 < base → base ≤ 16 → Printable (digits base false n)
unfolding digits
digits_printable base n some few = digits_onto_printable 64 base n [] some few refl

pub decimal_printable : (n : ℕ) → Printable (decimal n)
decimal_printable n = digits_printable 10 n (omega arith) (omega arith)

pub byte_printable : (octet : ℕ) → Printable (byte_text octet)
byte_printable octet =
    both (digits 16 false (octet / 16)) (digits 16 false (octet % 16)) (digits_printable 16 (octet / 16) (omega arith) (omega arith))
    (digits_printable 16 (octet % 16) (omega arith) (omega arith))

signed_printable : (z : ℤ) → Printable (signed_decimal z)
signed_printable (pos n) = decimal_printable n
signed_printable (negsuc n) = decimal_printable (suc n)

digit_printable : (digit : ℕ) → digit < 10 → is_printable (48 + digit) ≡ true
digit_printable digit small = grind (arith, nat_tests)

all_digits_printable : (ds : List ℕ) → AllBelowBase 10 ds → Printable (map (λ digit. 48 + digit) ds)
all_digits_printable [] below = refl
all_digits_printable (d ∷ ds) below =
    passed (is_printable (48 + d)) (list_all is_printable (map (λ digit. 48 + digit) ds)) (digit_printable d below.0) (all_digits_printable ds below.1)

wide_printable : (z : ℤ) → Printable (sign_text (is_negative z) ++ decimal_digits (unsigned_abs z))
wide_printable z =
    both (sign_text (is_negative z)) (decimal_digits (unsigned_abs z)) (either (is_negative z) (45 ∷ []) [] refl refl)
    (all_digits_printable (digits_of 10 (unsigned_abs z)) (all_below_base_digits_of 10 (unsigned_abs z) (omega arith)))

pub integer_printable : (z : ℤ) → Printable (integer_text z)
integer_printable z =
    either (is_narrow z) (signed_decimal z) (sign_text (is_negative z) ++ decimal_digits (unsigned_abs z)) (signed_printable z) (wide_printable z)

-- ---- octets

-- an octet that is written as it is, or else escaped
plain_or_escaped : (octet : ℕ) (printable special : Bool) → is_printable octet ≡ printable →
    Printable (cond (printable && not special) (octet ∷ []) (octet_escaped octet))
plain_or_escaped octet true false is = passed (is_printable octet) true is refl
plain_or_escaped octet true true is = byte_printable octet
plain_or_escaped octet false special is = byte_printable octet

octet_printable : (place : Place) (octet : ℕ) → Printable (octet_text place octet)
octet_printable place octet = plain_or_escaped octet (is_printable octet) (is_special place octet) refl

pub escaped_printable : (place : Place) (octets : List ℕ) → Printable (escaped_text place octets)
escaped_printable place octets = each (octet_text place) octets (octet_printable place)
