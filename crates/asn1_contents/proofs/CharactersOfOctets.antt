-- The octets of a UniversalString are the numbers of its characters, by four.
use Rattle.std.proofs.Common.{◌≡◌, ◌∙◌, ◌↔◌, ◌≤◌, ◌<◌, ◌==◌, ◌&&◌, ◌++◌, ◌+◌, ◌-◌, ℕ, Bool, false, true, List, [], ◌∷◌, None, Option, Some, ap, append_assoc, arith, drop, get_or, length, length-drop, lit<, refl, subst, sym, take}
use Rattle.std.proofs.lemmas.Bool.{false≢true}
use Rattle.std.proofs.lemmas.Grind.{common_steps}
use Rattle.std.proofs.lemmas.List.{append-nil, take_all}
use Rattle.std.proofs.lemmas.List.Elements.{All-cons, All-nil, All-tail}
use Rattle.std.proofs.lemmas.Nat.{be_bytes_4, from_be_bytes-to_be_bytes_4}
use Rattle.std.proofs.lemmas.Str.{chars-encodes, encodes-append, encodes-chars, scalars-chars}
use Rattle.std.proofs.Math.Utf8.{encode, encodes, scalar, scalar_fits, scalars}
use Rattle.std.specs.Char.{IsScalar}
use Rattle.std.specs.Int.{from_be_bytes, to_be_bytes, w32}
use Rattle.std.specs.Int.Digits.{AllBelowBase}
use Rattle.std.specs.Option.{SomeIff, is_some, option_map}
use Rattle.std.specs.Prelude.{All, IsTrue}
use Rattle.std.specs.Str.{IsUtf8, chars}
use Rattle.asn1_contents.specs.UniversalStrings.{IsUniversalString, after_number, is_universal_string, universal_characters, universal_octets}
use Rattle.asn1_contents.proofs.Days.{and, both}

-- what is not so is false
not_so : (b : Bool) → (b ≡ true → ⊥) → false ≡ b
not_so false not = refl
not_so true not = absurd (not refl)

-- a character has this number
pub is_number : (n : ℕ) (o : Option ℕ) → SomeIff o (IsScalar n) n → is_some o ≡ scalar n
is_number n None none = not_so (scalar n) none
is_number n (Some c) is = sym is.0

-- the number that the first four octets are
abbrev pub number_at : List ℕ → ℕ
number_at octets = from_be_bytes w32 (get_or octets 0 0 ∷ get_or octets 1 0 ∷ get_or octets 2 0 ∷ get_or octets 3 0 ∷ [])

-- the first four octets, and the rest
pub first_four : (octets : List ℕ) → 4 ≤ length octets →
    universal_characters octets ≡ after_number (scalar (number_at octets)) (number_at octets) (universal_characters (drop 4 octets))
first_four [] long = absurd (omega (arith, long))
first_four (a ∷ []) long = absurd (omega (arith, long))
first_four (a ∷ b ∷ []) long = absurd (omega (arith, long))
first_four (a ∷ b ∷ c ∷ []) long = absurd (omega (arith, long))
first_four (a ∷ b ∷ c ∷ d ∷ more) long = refl

-- whether there are characters, where the first has a number and where it has none
is_some_after : (b : Bool) (n : ℕ) (more : Option (List ℕ)) → is_some (after_number b n more) ≡ (b && is_some more)
is_some_after true n None = refl
is_some_after true n (Some cs) = refl
is_some_after false n more = refl

-- whether the first four octets are a character, and the rest are characters
pub are_first_four : (octets : List ℕ) → 4 ≤ length octets →
    is_universal_string octets ≡ (scalar (number_at octets) && is_universal_string (drop 4 octets))
are_first_four octets long = ap is_some (first_four octets long) ∙ is_some_after (scalar (number_at octets)) (number_at octets) (universal_characters (drop 4 octets))

-- fewer than four
pub below_four : (octets : List ℕ) → length octets < 4 → is_universal_string octets ≡ (length octets == 0)
below_four [] short = refl
below_four (a ∷ []) short = refl
below_four (a ∷ b ∷ []) short = refl
below_four (a ∷ b ∷ c ∷ []) short = refl
below_four (a ∷ b ∷ c ∷ d ∷ more) short = absurd (omega (arith, short))

-- characters before others, of which there may be none
abbrev pub before : List ℕ → Option (List ℕ) → Option (List ℕ)
before cs more = option_map (λ l. cs ++ l) more

-- one more character before others
one_before : (n : ℕ) (cs new : List ℕ) (more : Option (List ℕ)) → new ≡ cs ++ n ∷ [] → before cs (after_number true n more) ≡ before new more
one_before n cs new None is = refl
one_before n cs new (Some l) is = ap Some (sym (append_assoc cs (n ∷ []) l) ∙ ap (λ k. k ++ l) (sym is))

-- all but the first octets
pub rest_is : (n : ℕ) (octets : List ℕ) → n ≤ length octets → take (length octets - n) (drop n octets) ≡ drop n octets
rest_is n octets long = take_all (length octets - n) (drop n octets) (omega (arith, length-drop n octets))

-- the next four octets are a character
pub one_character : (octets cs new : List ℕ) (n c : ℕ) → 4 ≤ length octets → n ≡ number_at octets → SomeIff (Some c) (IsScalar n) n → new ≡ cs ++ c ∷ [] →
    before new (universal_characters (drop 4 octets)) ≡ before cs (universal_characters octets)
one_character octets cs new n c long same is pushed =
    let more = universal_characters (drop 4 octets) in
    let scalar_number : scalar (number_at octets) ≡ true = subst (λ m. scalar m ≡ true) same is.0 in
    sym (ap (before cs) (first_four octets long ∙ ap (λ b. after_number b (number_at octets) more) scalar_number) ∙
    one_before (number_at octets) cs new more (pushed ∙ ap (λ m. cs ++ m ∷ []) (is.1 ∙ same)))

-- the octets of a character and of others
four_octets : (c : ℕ) (more : List ℕ) → scalar c ≡ true →
    universal_characters (to_be_bytes w32 c ++ more) ≡ option_map (λ cs. c ∷ cs) (universal_characters more)
four_octets c more is =
    ap (λ n. after_number (scalar n) n (universal_characters more)) (from_be_bytes-to_be_bytes_4 c (scalar_fits c is))
    ∙ ap (λ b. after_number b c (universal_characters more)) is

-- the first one is a character
first_scalar : (c : ℕ) (cs : List ℕ) → All IsScalar (c ∷ cs) → scalar c ≡ true
first_scalar c cs all = all 0 c (omega arith)

-- the octets of characters have these characters
pub characters_again : (cs : List ℕ) → All IsScalar cs → universal_characters (universal_octets cs) ≡ Some cs
characters_again [] all = refl
characters_again (c ∷ cs) all =
    four_octets c (universal_octets cs) (first_scalar c cs all) ∙ ap (option_map (λ l. c ∷ l)) (characters_again cs (All-tail IsScalar c cs all))

-- four octets
four_fit : (a b c d : ℕ) → a < 256 → b < 256 → c < 256 → d < 256 → (i : ℕ) → get_or (a ∷ b ∷ c ∷ d ∷ []) i 0 < 256
four_fit a b c d fit_a fit_b fit_c fit_d i = grind (arith, fit_a, fit_b, fit_c, fit_d)

-- four octets that are the number of a character, before those of others
before_octets : (octets more : List ℕ) (number : ℕ) → to_be_bytes w32 number ≡ octets → scalar number ≡ true → IsUniversalString more →
    IsUniversalString (octets ++ more)
before_octets octets more number are is rest = record {
  characters = number ∷ rest.characters;
  are_characters = All-cons IsScalar number rest.characters is rest.are_characters;
  are = sym (λ i. are i ++ sym rest.are i);
}

-- octets that have characters are those of these
of_octets : (octets : List ℕ) → AllBelowBase 256 octets → is_universal_string octets ≡ true → IsUniversalString octets
of_octets [] fit e = record { characters = []; are_characters = All-nil IsScalar; are = refl }
of_octets (a ∷ []) fit e = absurd (false≢true e)
of_octets (a ∷ b ∷ []) fit e = absurd (false≢true e)
of_octets (a ∷ b ∷ c ∷ []) fit e = absurd (false≢true e)
of_octets (a ∷ b ∷ c ∷ d ∷ more) fit e =
    let number = from_be_bytes w32 (a ∷ b ∷ c ∷ d ∷ []) in
    let parts = both (scalar number) (is_universal_string more) (sym (is_some_after (scalar number) number (universal_characters more)) ∙ e) in
    before_octets (a ∷ b ∷ c ∷ d ∷ []) more number
    (be_bytes_4 (a ∷ b ∷ c ∷ d ∷ []) number refl (four_fit a b c d fit.0 fit.1.0 fit.1.1.0 fit.1.1.1.0) refl)
    parts.0 (of_octets more fit.1.1.1.1 parts.1)

-- octets are a UniversalString if and only if they are those of characters
pub universal_strings : (octets : List ℕ) → AllBelowBase 256 octets → IsTrue (is_universal_string octets) ↔ IsUniversalString octets
universal_strings octets fit = (
  of_octets octets fit,
  λ own. ap is_universal_string own.are ∙ ap is_some (characters_again own.characters own.are_characters),
)

-- the first of characters, and the others
first_of : (b : Bool) (n : ℕ) (more : Option (List ℕ)) (cs : List ℕ) → after_number b n more ≡ Some cs →
    (rest : List ℕ) × (b ≡ true) × (more ≡ Some rest) × (n ∷ rest ≡ cs)
first_of true n (Some l) cs e = (l, refl, refl, cc)
first_of true n None cs e = absurd (cc e)
first_of false n more cs e = absurd (cc e)

-- the characters of octets are characters
pub are_scalars : (octets cs : List ℕ) → universal_characters octets ≡ Some cs → scalars cs ≡ true
are_scalars [] cs e = (let none : [] ≡ cs = cc in subst (λ l. scalars l ≡ true) none refl)
are_scalars (a ∷ []) cs e = absurd (cc e)
are_scalars (a ∷ b ∷ []) cs e = absurd (cc e)
are_scalars (a ∷ b ∷ c ∷ []) cs e = absurd (cc e)
are_scalars (a ∷ b ∷ c ∷ d ∷ more) cs e =
    let number = from_be_bytes w32 (a ∷ b ∷ c ∷ d ∷ []) in
    let first = first_of (scalar number) number (universal_characters more) cs e in
    subst (λ l. scalars l ≡ true) first.3 (and (scalar number) (scalars first.0) first.1 (are_scalars more first.0 first.2))

-- the characters of a text are characters
pub text_scalars : (cs : List ℕ) → scalars cs ≡ true → All IsScalar cs
text_scalars [] e = All-nil IsScalar
text_scalars (c ∷ cs) e = (let parts = both (scalar c) (scalars cs) e in All-cons IsScalar c cs parts.0 (text_scalars cs parts.1))

-- one more character of a text
pub one_more : (cs : List ℕ) (i c : ℕ) (old new : List ℕ) → i < length cs → c ≡ get_or cs i c → old ≡ encodes (take i cs) → new ≡ old ++ encode c →
    new ≡ encodes (take (i + 1) cs)
one_more cs i c old new less is before made =
    let next : take (i + 1) cs ≡ take i cs ++ c ∷ [] = grind (arith, common_steps, is, less) in
    let one : encodes (c ∷ []) ≡ encode c = append-nil (encode c) in
    made ∙ (λ k. before k ++ sym one k) ∙ sym (encodes-append (take i cs) (c ∷ [])) ∙ ap encodes (sym next)

-- the text of the octets of a text
pub same_text : (own text read : List ℕ) → IsUtf8 text → IsUtf8 read → own ≡ universal_octets (chars text) → universal_characters own ≡ Some (chars read) →
    read ≡ text
same_text own text read utf8 read_utf8 made found = sym (encodes-chars read read_utf8) ∙ ap encodes (sym same) ∙ encodes-chars text utf8
  where
    again : universal_characters own ≡ Some (chars text)
    again = ap universal_characters made ∙ characters_again (chars text) (text_scalars (chars text) (scalars-chars text utf8))

    both_some : Some (chars text) ≡ Some (chars read)
    both_some = sym again ∙ found

    same : chars text ≡ chars read
    same = cc both_some

-- the text of the characters of octets
pub text_of_octets : (octets cs slice text : List ℕ) → universal_characters octets ≡ Some cs → slice ≡ cs → text ≡ encodes slice →
    universal_characters octets ≡ Some (chars text)
text_of_octets octets cs slice text found same made =
    found ∙ ap Some (sym (ap chars (made ∙ ap encodes same) ∙ chars-encodes cs (are_scalars octets cs found)))
