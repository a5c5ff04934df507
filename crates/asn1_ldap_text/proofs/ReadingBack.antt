-- Escaped octets are determined by their text.
use Rattle.std.proofs.Common.{◌≡◌, ℕ, ◌/◌, ◌%◌, ◌<◌, Bool, true, false, List, [], ◌∷◌, ◌++◌, All, ap, arith, cond, refl, sym, ◌∙◌}
use Rattle.std.specs.Fmt.{digit_glyph, digits}
use Rattle.std.proofs.lemmas.Bool.Decides.{nat_tests}
use Rattle.std.proofs.lemmas.Fmt.{hex_one_digit}
use Rattle.std.proofs.lemmas.List.Elements.{All-head, All-tail}
use Rattle.asn1_ldap_text.specs.Escapes.{escaped_text, is_plain, octet_escaped, octet_text}
use Rattle.asn1_ldap_text.specs.declared.escapes.Place.{Place}
use Rattle.asn1_ldap_text.specs.declared.escapes.Place.TheVariants.{Assertion, Quotes, Word}

-- the digits of an octet
digits_are : (octet : ℕ) → octet < 256 → octet_escaped octet ≡ 92 ∷ digit_glyph false (octet / 16) ∷ digit_glyph false (octet % 16) ∷ []
digits_are octet low =
    let first : octet / 16 < 16 = omega arith in
    let second : octet % 16 < 16 = omega arith in
    ap (λ l. 92 ∷ (l ++ digits 16 false (octet % 16))) (hex_one_digit false (octet / 16) first)
    ∙ ap (λ l. 92 ∷ digit_glyph false (octet / 16) ∷ l) (hex_one_digit false (octet % 16) second)

-- a digit determines its value
same_value : (a b : ℕ) → a < 16 → b < 16 → digit_glyph false a ≡ digit_glyph false b → a ≡ b
same_value a b low few same = grind (arith, nat_tests)

-- a backslash is escaped at each place
backslash_is_special : (place : Place) → is_plain place 92 ≡ false
backslash_is_special Assertion = refl
backslash_is_special Quotes = refl
backslash_is_special Word = refl

-- an octet at a place: as it is, and then it is no backslash, or escaped
data Written (place : Place) (octet : ℕ) : Type 0 where
  as_it_is : ¬ (octet ≡ 92) → octet_text place octet ≡ octet ∷ [] → Written place octet
  as_digits : octet_text place octet ≡ 92 ∷ digit_glyph false (octet / 16) ∷ digit_glyph false (octet % 16) ∷ [] → Written place octet

written_by : (place : Place) (octet : ℕ) → octet < 256 → (b : Bool) → is_plain place octet ≡ b → Written place octet
written_by place octet low true is =
    as_it_is (λ slash. let never : false ≡ true = sym (backslash_is_special place) ∙ (ap (is_plain place) (sym slash) ∙ is) in cc)
    (ap (λ b. cond b (octet ∷ []) (octet_escaped octet)) is)
written_by place octet low false is =
    as_digits (ap (λ b. cond b (octet ∷ []) (octet_escaped octet)) is ∙ digits_are octet low)

written : (place : Place) (octet : ℕ) → octet < 256 → Written place octet
written place octet low = written_by place octet low (is_plain place octet) refl

-- the first octets of two texts that are the same, and what follows them
same_first : (place : Place) (a b : ℕ) (xs ys : List ℕ) → a < 256 → b < 256 → Written place a → Written place b →
    octet_text place a ++ xs ≡ octet_text place b ++ ys → (a ≡ b) × (xs ≡ ys)
same_first place a b xs ys low few (as_it_is _ is) (as_it_is _ at) same =
    let plain : a ∷ xs ≡ b ∷ ys = ap (λ l. l ++ xs) (sym is) ∙ (same ∙ ap (λ l. l ++ ys) at) in (cc, cc)
same_first place a b xs ys low few (as_it_is never is) (as_digits at) same =
    let mixed : a ∷ xs ≡ 92 ∷ digit_glyph false (b / 16) ∷ digit_glyph false (b % 16) ∷ ys = ap (λ l. l ++ xs) (sym is) ∙ (same ∙ ap (λ l. l ++ ys) at) in
    let slash : a ≡ 92 = cc in absurd (never slash)
same_first place a b xs ys low few (as_digits is) (as_it_is never at) same =
    let mixed : 92 ∷ digit_glyph false (a / 16) ∷ digit_glyph false (a % 16) ∷ xs ≡ b ∷ ys = ap (λ l. l ++ xs) (sym is) ∙ (same ∙ ap (λ l. l ++ ys) at) in
    let slash : b ≡ 92 = cc in absurd (never slash)
same_first place a b xs ys low few (as_digits is) (as_digits at) same =
    let all : 92 ∷ digit_glyph false (a / 16) ∷ digit_glyph false (a % 16) ∷ xs ≡ 92 ∷ digit_glyph false (b / 16) ∷ digit_glyph false (b % 16) ∷ ys =
    ap (λ l. l ++ xs) (sym is) ∙ (same ∙ ap (λ l. l ++ ys) at) in
    let first : digit_glyph false (a / 16) ≡ digit_glyph false (b / 16) = cc in
    let second : digit_glyph false (a % 16) ≡ digit_glyph false (b % 16) = cc in
    let high : a / 16 ≡ b / 16 = same_value (a / 16) (b / 16) (omega arith) (omega arith) first in
    let bottom : a % 16 ≡ b % 16 = same_value (a % 16) (b % 16) (omega arith) (omega arith) second in
    (omega arith, cc)

-- an octet's text is not empty
something : (place : Place) (a : ℕ) (xs : List ℕ) → Written place a → ¬ (octet_text place a ++ xs ≡ [])
something place a xs (as_it_is _ is) none = let empty : a ∷ xs ≡ [] = ap (λ l. l ++ xs) (sym is) ∙ none in cc
something place a xs (as_digits is) none =
    let empty : 92 ∷ digit_glyph false (a / 16) ∷ digit_glyph false (a % 16) ∷ xs ≡ [] = ap (λ l. l ++ xs) (sym is) ∙ none in cc

pub same_octets : (place : Place) (a b : List ℕ) → All (λ octet. octet < 256) a → All (λ octet. octet < 256) b →
    escaped_text place a ≡ escaped_text place b → a ≡ b
same_octets place [] [] low few same = refl
same_octets place [] (b ∷ ys) low few same =
    absurd (something place b (escaped_text place ys) (written place b (All-head (λ octet. octet < 256) b ys few)) (sym same))
same_octets place (a ∷ xs) [] low few same =
    absurd (something place a (escaped_text place xs) (written place a (All-head (λ octet. octet < 256) a xs low)) same)
same_octets place (a ∷ xs) (b ∷ ys) low few same =
    let head = All-head (λ octet. octet < 256) a xs low in
    let other = All-head (λ octet. octet < 256) b ys few in
    let split = same_first place a b (escaped_text place xs) (escaped_text place ys) head other (written place a head) (written place b other) same in
    let rest = same_octets place xs ys (All-tail (λ octet. octet < 256) a xs low) (All-tail (λ octet. octet < 256) b ys few) split.1 in
    let first = split.0 in cc
