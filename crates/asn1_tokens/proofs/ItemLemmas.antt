-- The items with which texts begin.
use Rattle.std.proofs.Common.{◌≡◌, ℕ, zero, suc, ◌+◌, ◌-◌, ◌<◌, ◌≤◌, Bool, true, false, cond, ◌||◌, ◌&&◌, not, List, [], ◌∷◌, ◌++◌, length, take, drop, Some, None, refl, sym, ap, ◌∙◌, subst, append_assoc, arith}
use Rattle.std.specs.Char.{is_ascii_alphabetic, is_ascii_alphanumeric, is_ascii_digit}
use Rattle.std.specs.Int.{is_in_range}
use Rattle.std.specs.Prelude.{◌==◌, nat_eq}
use Rattle.std.specs.List.{find, list_all, list_any, prefix_len, starts_with}
use Rattle.std.specs.Str.{bytes_eq}
use Rattle.std.proofs.lemmas.Bool.Decides.{Decides-eqb}
use Rattle.std.proofs.lemmas.Slice.Eq.{slice_eq-Decides}
use Rattle.std.proofs.Math.Seq.{take-append_seam}
use Rattle.std.proofs.lemmas.List.{length-append, length-take-le, take-append-drop, take_rest}
use Rattle.asn1_tokens.specs.declared.kind.TokenKind.{TokenKind}
use Rattle.asn1_tokens.specs.Characters.{first, is_in_name, is_binary_character, is_hex_character}
use Rattle.asn1_tokens.specs.Items.{after_name, is_spelled_as_name, after_quotation, IsCharacterString, Splits, EndsName, IsItem, IsNumber}
use Rattle.asn1_tokens.specs.Refusals.{HasNoDigits}
use Rattle.asn1_tokens.specs.Words.{is_among}

-- what is cut off in front of the rest is the item
pub cut_item : (text item after : List ℕ) → text ≡ item ++ after → take (length text - length after) text ≡ item
cut_item text item after parts =
    let lengths : length text - length after ≡ length item = omega (arith, ap length parts, length-append item after) in
    (λ i. take (lengths i) (parts i)) ∙ take-append_seam item after

-- the letters, digits and hyphens of a name
abbrev name_of : List ℕ → List ℕ
name_of [] = []
name_of (c ∷ rest) = cond (is_in_name c (first rest)) (c ∷ name_of rest) []

pub name_parts : (text : List ℕ) → text ≡ name_of text ++ after_name text
name_parts [] = refl
name_parts (c ∷ rest) =
    elim (is_in_name c (first rest)) as (λ b. c ∷ rest ≡ cond b (c ∷ name_of rest) [] ++ cond b (after_name rest) (c ∷ rest)) [
      | true ↦ ap (λ t. c ∷ t) (name_parts rest)
      | false ↦ refl
    ]

-- a character that goes on with a name, where the next one does not, goes on without it
stops : (a h n m : Bool) → (a || (h && n)) ≡ true → (n || m) ≡ false → a ≡ true
stops true h n m goes ends = refl
stops false true true m goes ends = cc
stops false true false m goes ends = goes
stops false false n m goes ends = goes

or_left : (a b : Bool) → a ≡ true → (a || b) ≡ true
or_left a b is = ap (λ x. x || b) is

and_both : (a b : Bool) → a ≡ true → b ≡ true → (a && b) ≡ true
and_both a b is_a is_b = ap (λ x. x && b) is_a ∙ is_b

goes_on : (c : ℕ) (rest : List ℕ) → is_in_name c (first rest) ≡ true → is_in_name c (first (name_of rest)) ≡ true
goes_on c [] goes = goes
goes_on c (d ∷ rest) goes =
    elim (is_in_name d (first rest)) as (λ b. is_in_name d (first rest) ≡ b → is_in_name c (first (cond b (d ∷ name_of rest) [])) ≡ true) [
      | true ↦ λ same. goes
      | false ↦ λ same. or_left _ _ (stops (is_ascii_alphanumeric c) (c == 45) (is_ascii_alphanumeric d) _ goes same)
    ] refl

pub name_spelled : (text : List ℕ) → is_spelled_as_name (name_of text) ≡ true
name_spelled [] = refl
name_spelled (c ∷ rest) =
    elim (is_in_name c (first rest)) as (λ b. is_in_name c (first rest) ≡ b → is_spelled_as_name (cond b (c ∷ name_of rest) []) ≡ true) [
      | true ↦ λ same. and_both _ _ (goes_on c rest same) (name_spelled rest)
      | false ↦ λ same. refl
    ] refl

letter_is_in_name : (a b c d : Bool) → (b || c) ≡ true → (((a || b) || c) || d) ≡ true
letter_is_in_name true b c d is = refl
letter_is_in_name false true c d is = refl
letter_is_in_name false false true d is = refl
letter_is_in_name false false false d is = absurd (cc)

pub name_first : (text : List ℕ) → is_ascii_alphabetic (first text) ≡ true → first (name_of text) ≡ first text
name_first [] letter = refl
name_first (c ∷ rest) letter = ap (λ b. first (cond b (c ∷ name_of rest) [])) (letter_is_in_name (is_in_range 48 57 c) (is_in_range 65 90 c) (is_in_range 97 122 c) _ letter)

-- the word that is cut off in front of what follows it
pub word_is : (text after : List ℕ) → after ≡ after_name text → take (length text - length after) text ≡ name_of text
word_is text after rest = cut_item text (name_of text) after (name_parts text ∙ ap (λ t. name_of text ++ t) (sym rest))

-- a name ends where neither a letter, a digit, nor a hyphen before one follows
after_name_ends : (text : List ℕ) → EndsName (after_name text)
after_name_ends [] = refl
after_name_ends (c ∷ rest) =
    elim (is_in_name c (first rest)) as (λ b. is_in_name c (first rest) ≡ b → EndsName (cond b (after_name rest) (c ∷ rest))) [
      | true ↦ λ same. after_name_ends rest
      | false ↦ λ same. same
    ] refl

pub name_ends : (text after : List ℕ) → after ≡ after_name text → EndsName after
name_ends text after rest = let P : List ℕ → Type 0 = λ t. EndsName t in subst P (sym rest) (after_name_ends text)

-- digits end where none follows
digits_stop : (text : List ℕ) → is_ascii_digit (first (drop (prefix_len is_ascii_digit text) text)) ≡ false
digits_stop [] = refl
digits_stop (c ∷ rest) =
    elim (is_ascii_digit c) as (λ b. is_ascii_digit c ≡ b → is_ascii_digit (first (drop (cond b (1 + prefix_len is_ascii_digit rest) 0) (c ∷ rest))) ≡ false) [
      | true ↦ λ same.
          let one_more : suc (prefix_len is_ascii_digit rest) ≡ 1 + prefix_len is_ascii_digit rest = omega arith in
          subst (λ n. is_ascii_digit (first (drop n (c ∷ rest))) ≡ false) one_more (digits_stop rest)
      | false ↦ λ same. same
    ] refl

pub digits_end : (text : List ℕ) (n : ℕ) → n ≡ prefix_len is_ascii_digit text → is_ascii_digit (first (take (length text - n) (drop n text))) ≡ false
digits_end text n counted = ap (λ t. is_ascii_digit (first t)) (take_rest text n) ∙ ap (λ m. is_ascii_digit (first (drop m text))) counted ∙ digits_stop text

-- digits
pub digits_pass : (p : ℕ → Bool) (text : List ℕ) → list_all p (take (prefix_len p text) text) ≡ true
digits_pass p [] = refl
digits_pass p (c ∷ rest) =
    elim (p c) as (λ b. p c ≡ b → list_all p (take (cond b (1 + prefix_len p rest) 0) (c ∷ rest)) ≡ true) [
      | true ↦ λ same.
          let one_more : suc (prefix_len p rest) ≡ 1 + prefix_len p rest = omega arith in
          subst (λ n. list_all p (take n (c ∷ rest)) ≡ true) one_more (and_both _ _ same (digits_pass p rest))
      | false ↦ λ same. refl
    ] refl

some_digits : (text : List ℕ) → is_ascii_digit (first text) ≡ true → 0 < prefix_len is_ascii_digit text
some_digits [] digit = absurd cc
some_digits (c ∷ rest) digit =
    let counted : prefix_len is_ascii_digit (c ∷ rest) ≡ 1 + prefix_len is_ascii_digit rest = ap (λ b. cond b (1 + prefix_len is_ascii_digit rest) 0) digit in
    omega arith

first_of_take : (n : ℕ) (text : List ℕ) → 0 < n → first (take n text) ≡ first text
first_of_take zero text some = absurd (omega arith)
first_of_take (suc n) [] some = refl
first_of_take (suc n) (c ∷ rest) some = refl

pub number_splits : (text : List ℕ) (n : ℕ) → n ≡ prefix_len is_ascii_digit text → n ≤ length text → is_ascii_digit (first text) ≡ true →
    (first text ≡ 48 → n ≤ 1) → Splits IsNumber text (take (length text - n) (drop n text))
number_splits text n counted within digit no_more =
    let some : 0 < n = omega (arith, some_digits text digit) in
    let size : length (take n text) ≡ n = length-take-le n text within in (
      take n text,
      sym (take-append-drop n text) ∙ ap (λ t. take n text ++ t) (sym (take_rest text n)),
      (
        omega arith,
        ap (λ m. list_all is_ascii_digit (take m text)) counted ∙ digits_pass is_ascii_digit text,
        λ zero_first. omega (arith, no_more (sym (first_of_take n text some) ∙ zero_first)),
      ),
    )

-- the text before a quotation mark that is not one of a pair, with that mark
record QuotationParts (second : Bool) (text after : List ℕ) : Type 0 where
  body : List ℕ
  parts : text ≡ body ++ after
  closed : after_quotation second body ≡ Some []
  some : 0 < length body

first_of_append : (xs ys : List ℕ) → 0 < length xs → first (xs ++ ys) ≡ first xs
first_of_append [] ys some = absurd (omega arith)
first_of_append (x ∷ xs) ys some = refl

quotation_parts : (second : Bool) (text after : List ℕ) → after_quotation second text ≡ Some after → QuotationParts second text after
quotation_parts second [] after found = absurd cc
quotation_parts true (c ∷ rest) after found =
    let more = quotation_parts false rest after found in
    record { body = c ∷ more.body; parts = ap (λ t. c ∷ t) more.parts; closed = more.closed; some = omega arith }
quotation_parts false (c ∷ rest) after found =
    elim (c == 34) as (λ b. (c == 34) ≡ b → cond b (cond (first rest == 34) (after_quotation true rest) (Some rest)) (after_quotation false rest) ≡ Some after → QuotationParts false (c ∷ rest) after) [
      | true ↦ λ mark found.
          elim (first rest == 34) as (λ b. (first rest == 34) ≡ b → cond b (after_quotation true rest) (Some rest) ≡ Some after → QuotationParts false (c ∷ rest) after) [
            | true ↦ λ pair found.
                let more = quotation_parts true rest after found in
                let again : (first more.body == 34) ≡ true =
                ap (λ x. x == 34) (sym (first_of_append more.body after more.some) ∙ ap first (sym more.parts)) ∙ pair in
                record {
                  body = c ∷ more.body;
                  parts = ap (λ t. c ∷ t) more.parts;
                  closed =
                      ap (λ b. cond b (cond (first more.body == 34) (after_quotation true more.body) (Some more.body)) (after_quotation false more.body)) mark
                      ∙ ap (λ b. cond b (after_quotation true more.body) (Some more.body)) again ∙ more.closed;
                  some = omega arith;
                }
            | false ↦ λ single found.
                let left : rest ≡ after = cc in
                record {
                  body = c ∷ [];
                  parts = ap (λ t. c ∷ t) left;
                  closed = ap (λ b. cond b (Some []) None) mark;
                  some = omega arith;
                }
          ] refl found
      | false ↦ λ other found.
          let more = quotation_parts false rest after found in
          record {
            body = c ∷ more.body;
            parts = ap (λ t. c ∷ t) more.parts;
            closed = ap (λ b. cond b (cond (first more.body == 34) (after_quotation true more.body) (Some more.body)) (after_quotation false more.body)) other ∙ more.closed;
            some = omega arith;
          }
    ] refl found

pub string_splits : (text after : List ℕ) → first text ≡ 34 → Some after ≡ after_quotation false (take (length text - 1) (drop 1 text)) → Splits IsCharacterString text after
string_splits [] after mark found = absurd (omega (arith, mark))
string_splits (c ∷ rest) after mark found =
    let whole = take_rest (c ∷ rest) 1 in
    let inside = quotation_parts false rest after (sym (found ∙ ap (after_quotation false) whole)) in
    (c ∷ inside.body, ap (λ t. c ∷ t) inside.parts, (mark, inside.closed))

-- the text before an apostrophe
pub no_apostrophe : (text : List ℕ) → prefix_len (λ c. not (c == 39)) text ≡ length text → list_any (λ c. c == 39) text ≡ false
no_apostrophe [] all = refl
no_apostrophe (c ∷ rest) all =
    elim (c == 39) as (λ b. cond (not b) (1 + prefix_len (λ c. not (c == 39)) rest) 0 ≡ length (c ∷ rest) → (b || list_any (λ c. c == 39) rest) ≡ false) [
      | true ↦ λ all. absurd (omega (arith, all))
      | false ↦ λ all. no_apostrophe rest (omega (arith, all))
    ] all

pub record ApostropheParts (text : List ℕ) (n : ℕ) : Type 0 where
  pub parts : text ≡ take n text ++ 39 ∷ drop (suc n) text
  pub inside : list_any (λ c. c == 39) (take n text) ≡ false

apostrophe_parts : (text : List ℕ) (n : ℕ) → n ≡ prefix_len (λ c. not (c == 39)) text → n < length text → ApostropheParts text n
apostrophe_parts [] n counted within = absurd (omega arith)
apostrophe_parts (c ∷ rest) n counted within =
    let P : ℕ → Type 0 = λ m. ApostropheParts (c ∷ rest) m in
    elim (c == 39) as (λ b. (c == 39) ≡ b → n ≡ cond (not b) (1 + prefix_len (λ c. not (c == 39)) rest) 0 → ApostropheParts (c ∷ rest) n) [
      | true ↦ λ mark counted. subst P (sym counted) (record { parts = ap (λ x. x ∷ rest) ((Decides-eqb c 39).0 mark); inside = refl })
      | false ↦ λ other counted.
          let before = prefix_len (λ c. not (c == 39)) rest in
          let one_more : suc before ≡ n = omega (arith, counted) in
          let more = apostrophe_parts rest before refl (omega arith) in
          subst P one_more (record { parts = ap (λ t. c ∷ t) more.parts; inside = ap (λ b. b || list_any (λ c. c == 39) (take before rest)) other ∙ more.inside })
    ] refl counted

-- a text that begins with a character
begins : (text : List ℕ) (c : ℕ) → first text ≡ c → 0 < c → text ≡ c ∷ drop 1 text
begins [] c is some = absurd (omega arith)
begins (d ∷ rest) c is some = ap (λ x. x ∷ rest) is

-- The text is an apostrophe, what is inside, another apostrophe, and what follows.
record DigitParts (text inside after : List ℕ) (n : ℕ) : Type 0 where
  parts : text ≡ 39 ∷ (take n inside ++ 39 ∷ after)
  before : list_any (λ c. c == 39) (take n inside) ≡ false

digit_parts : (text inside after : List ℕ) (n : ℕ) → first text ≡ 39 → inside ≡ take (length text - 1) (drop 1 text) →
    n ≡ prefix_len (λ c. not (c == 39)) inside → n < length inside →
    after ≡ take (length inside - (n + 1)) (drop (n + 1) inside) → DigitParts text inside after n
digit_parts text inside after n mark inside_is counted within after_is =
    let split = apostrophe_parts inside n counted within in
    let next : n + 1 ≡ suc n = omega arith in
    let rest : after ≡ drop (suc n) inside = after_is ∙ take_rest inside (n + 1) ∙ ap (λ m. drop m inside) next in
    record {
      parts =
          begins text 39 mark (omega arith) ∙ ap (λ t. 39 ∷ t) (sym (take_rest text 1) ∙ sym inside_is ∙ split.parts ∙ ap (λ t. take n inside ++ 39 ∷ t) (sym rest));
      before = split.inside;
    }

pub digits_split : (text inside after rest : List ℕ) (n letter : ℕ) (kind : TokenKind) → first text ≡ 39 → inside ≡ take (length text - 1) (drop 1 text) →
    n ≡ prefix_len (λ c. not (c == 39)) inside → n < length inside →
    after ≡ take (length inside - (n + 1)) (drop (n + 1) inside) → letter ≡ first after → 0 < letter → rest ≡ take (length after - 1) (drop 1 after) →
    IsItem kind (39 ∷ (take n inside ++ 39 ∷ letter ∷ [])) → Splits (IsItem kind) text rest
digits_split text inside after rest n letter kind mark inside_is counted within after_is letter_is some rest_is item =
    let cut = digit_parts text inside after n mark inside_is counted within after_is in
    let end : after ≡ letter ∷ rest = begins after letter (sym letter_is) some ∙ ap (λ t. letter ∷ t) (sym (take_rest after 1) ∙ sym rest_is) in (
      39 ∷ (take n inside ++ 39 ∷ letter ∷ []),
      cut.parts ∙ ap (λ t. 39 ∷ t) (ap (λ t. take n inside ++ 39 ∷ t) end ∙ sym (append_assoc (take n inside) (39 ∷ letter ∷ []) rest)),
      item,
    )

pub no_digits : (text inside after : List ℕ) (n letter : ℕ) → first text ≡ 39 → inside ≡ take (length text - 1) (drop 1 text) →
    n ≡ prefix_len (λ c. not (c == 39)) inside → n < length inside →
    after ≡ take (length inside - (n + 1)) (drop (n + 1) inside) → letter ≡ first after →
    (letter ≡ 66 → list_all is_binary_character (take n inside) ≡ false) × (letter ≡ 72 → list_all is_hex_character (take n inside) ≡ false) → HasNoDigits text
no_digits text inside after n letter mark inside_is counted within after_is letter_is neither =
    let cut = digit_parts text inside after n mark inside_is counted within after_is in
    record {
      body = take n inside;
      after = after;
      parts = cut.parts;
      inside = cut.before;
      no_bits = λ is. neither.0 (letter_is ∙ is);
      no_hex = λ is. neither.1 (letter_is ∙ is);
    }

pub unclosed_digits : (text : List ℕ) (n : ℕ) → n ≡ prefix_len (λ c. not (c == 39)) (take (length text - 1) (drop 1 text)) → n ≡ length (take (length text - 1) (drop 1 text)) →
    list_any (λ c. c == 39) (drop 1 text) ≡ false
unclosed_digits text n counted all =
    ap (list_any (λ c. c == 39)) (sym (take_rest text 1)) ∙ no_apostrophe (take (length text - 1) (drop 1 text)) (sym counted ∙ all)

-- symbols
record FoundAmong (p : List ℕ → Bool) (xs : List (List ℕ)) (x : List ℕ) : Type 0 where
  passes : p x ≡ true
  among : is_among xs x ≡ true

same_bytes : (x : List ℕ) → bytes_eq x x ≡ true
same_bytes x = (slice_eq-Decides Decides-eqb x x (bytes_eq x x) refl).1 refl

or_right : (a b : Bool) → b ≡ true → (a || b) ≡ true
or_right true b is = refl
or_right false b is = is

found_among : (p : List ℕ → Bool) (xs : List (List ℕ)) (x : List ℕ) → Some x ≡ find p xs → FoundAmong p xs x
found_among p [] x found = absurd cc
found_among p (y ∷ ys) x found =
    elim (p y) as (λ b. p y ≡ b → Some x ≡ cond b (Some y) (find p ys) → FoundAmong p (y ∷ ys) x) [
      | true ↦ λ passes found.
          let same : x ≡ y = cc in
          record { passes = ap p same ∙ passes; among = or_left _ _ (ap (bytes_eq y) same ∙ same_bytes y) }
      | false ↦ λ fails found.
          let more = found_among p ys x found in
          record { passes = more.passes; among = or_right _ _ more.among }
    ] refl found

pub none_found : (p : List ℕ → Bool) (xs : List (List ℕ)) → None ≡ find p xs → list_any p xs ≡ false
none_found p [] none = refl
none_found p (y ∷ ys) none =
    elim (p y) as (λ b. None ≡ cond b (Some y) (find p ys) → (b || list_any p ys) ≡ false) [
      | true ↦ λ none. absurd cc
      | false ↦ λ none. none_found p ys none
    ] none

pub symbol_splits : (table : List (List ℕ)) (text symbol : List ℕ) → Some symbol ≡ find (λ known. starts_with nat_eq text known) table →
    Splits (λ item. is_among table item ≡ true) text (take (length text - length symbol) (drop (length symbol) text))
symbol_splits table text symbol found =
    let is = found_among (λ known. starts_with nat_eq text known) table symbol found in
    let front : symbol ≡ take (length symbol) text = (slice_eq-Decides Decides-eqb symbol (take (length symbol) text) _ refl).0 is.passes in (
      symbol,
      sym (take-append-drop (length symbol) text) ∙ (λ i. sym front i ++ sym (take_rest text (length symbol)) i),
      is.among,
    )
