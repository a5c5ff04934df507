-- What stands between items: white space and comments (X.680, 12.1.6 and 12.6).
use Rattle.std.specs.Prelude.{◌≡◌, ℕ, ◌+◌, ◌-◌, Bool, true, false, ◌&&◌, ◌||◌, not, ◌==◌, List, [], ◌∷◌, drop, Option, Some, None, if◌then◌else◌, slice_index}
use Rattle.asn1_tokens.specs.Characters.{is_newline, is_white_space, hyphen, first}

abbrev slash : ℕ
slash = 47

abbrev asterisk : ℕ
asterisk = 42

-- A comment that begins with two hyphens ends with the next two, or at the end of the line, whichever comes first (12.6.3).
-- This is the text after it, for the text after the first two hyphens.
abbrev pub after_hyphens : List ℕ → List ℕ
after_hyphens [] = []
after_hyphens (c ∷ rest) =
    if is_newline c then rest
    else (if c == hyphen && first rest == hyphen then drop 1 rest
    else after_hyphens rest)

-- A comment that begins with a slash and an asterisk ends with an asterisk and a slash; comments inside it have ends of
-- their own (12.6.4). This is the text after it, for a text inside this many comments, or none if the text ends before. The
-- flag tells that the next character belongs to the pair before.
abbrev pub after_comment : Bool → ℕ → List ℕ → Option (List ℕ)
after_comment second depth [] = None
after_comment true depth (c ∷ rest) = after_comment false depth rest
after_comment false depth (c ∷ rest) =
    if c == asterisk && first rest == slash then (if depth == 1 then Some (drop 1 rest) else after_comment true (depth - 1) rest)
    else (if c == slash && first rest == asterisk then after_comment true (depth + 1) rest
    else after_comment false depth rest)

-- The text begins with these two characters.
abbrev pub begins_with_pair : ℕ → ℕ → List ℕ → Bool
begins_with_pair a b text = first text == a && slice_index text 1 == b

-- a text that begins with a NO-BREAK SPACE, which is white space too (X.680, 12.1.6), and has two octets in UTF-8
abbrev pub begins_with_no_break_space : List ℕ → Bool
begins_with_no_break_space text = begins_with_pair 194 160 text

-- a text that begins with a comment of the second kind
abbrev pub begins_with_comment : List ℕ → Bool
begins_with_comment text = begins_with_pair slash asterisk text

-- a text that begins with a comment of the first kind
abbrev pub begins_with_hyphens : List ℕ → Bool
begins_with_hyphens text = begins_with_pair hyphen hyphen text

-- White space and comments, one after another, stand between a text and a later one.
pub data Skips : List ℕ → List ℕ → Type 0 where
  nothing : (text : List ℕ) → Skips text text
  white_space : (text rest : List ℕ) → is_white_space (first text) ≡ true → Skips (drop 1 text) rest → Skips text rest
  no_break_space : (text rest : List ℕ) → begins_with_no_break_space text ≡ true → Skips (drop 2 text) rest → Skips text rest
  line_comment : (text rest : List ℕ) → begins_with_hyphens text ≡ true → Skips (after_hyphens (drop 2 text)) rest → Skips text rest
  comment : (text after rest : List ℕ) → begins_with_comment text ≡ true → after_comment false 1 (drop 2 text) ≡ Some after →
      Skips after rest → Skips text rest

-- A comment begins here that has no end.
abbrev pub IsUnclosedComment : List ℕ → Type 0
IsUnclosedComment text = (begins_with_comment text ≡ true) × (after_comment false 1 (drop 2 text) ≡ None)

-- Neither white space nor a comment begins here.
abbrev pub is_unskipped : List ℕ → Bool
is_unskipped text =
    not (is_white_space (first text) || (begins_with_no_break_space text || (begins_with_hyphens text || begins_with_comment text)))
