-- The characters of the character string types, as the tables of X.680, 41, list them. A unit is a character's code in ASCII.
use Rattle.std.proofs.Common.{arith}
use Rattle.std.proofs.lemmas.Bool.Decides.{nat_tests}
use Rattle.std.specs.Prelude.{ℕ, ◌<◌, IsTrue, Bool, List, ◌||◌, ◌==◌, codes}
use Rattle.std.specs.List.{list_any}
use Rattle.std.specs.Char.{is_ascii, is_ascii_digit, is_ascii_graphic, is_ascii_lowercase, is_ascii_uppercase}

-- the character is one of the text's
abbrev pub is_among : List ℕ → ℕ → Bool
is_among text c = list_any (λ x. x == c) text

-- VisibleString: the graphic characters of ASCII, and space
abbrev pub is_visible : ℕ → Bool
is_visible c = is_ascii_graphic c || is_among (codes " ") c

-- IA5String: all of ASCII, with its control characters
abbrev pub is_ia5 : ℕ → Bool
is_ia5 c = is_ascii c

-- NumericString: the digits, and space
abbrev pub is_numeric : ℕ → Bool
is_numeric c = is_ascii_digit c || is_among (codes " ") c

-- PrintableString: capital letters, small letters, digits, space and eleven marks
abbrev pub is_printable : ℕ → Bool
is_printable c = is_ascii_uppercase c || is_ascii_lowercase c || is_ascii_digit c || is_among (codes " '()+,-./:=?") c

-- ---- each of these alphabets lies inside ASCII

pub is_visible-ascii : (c : ℕ) → IsTrue (is_visible c) → c < 128
is_visible-ascii c allowed = grind (arith, nat_tests)

pub is_ia5-ascii : (c : ℕ) → IsTrue (is_ia5 c) → c < 128
is_ia5-ascii c allowed = grind (arith, nat_tests)

pub is_numeric-ascii : (c : ℕ) → IsTrue (is_numeric c) → c < 128
is_numeric-ascii c allowed = grind (arith, nat_tests)

pub is_printable-ascii : (c : ℕ) → IsTrue (is_printable c) → c < 128
is_printable-ascii c allowed = grind (arith, nat_tests)
