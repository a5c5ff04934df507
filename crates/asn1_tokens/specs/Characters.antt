-- The characters of which items are made.
use Rattle.std.specs.Prelude.{ℕ, Bool, ◌||◌, ◌&&◌, ◌==◌, nat_le, List, slice_index}
use Rattle.std.specs.Char.{is_ascii_alphanumeric, is_ascii_digit}

-- LINE FEED, VERTICAL TABULATION, FORM FEED and CARRIAGE RETURN (X.680, 12.1.6)
abbrev pub is_newline : ℕ → Bool
is_newline c = nat_le 10 c && nat_le c 13

-- SPACE, HORIZONTAL TABULATION, or a newline: the white space of one octet (X.680, 12.1.6)
abbrev pub is_white_space : ℕ → Bool
is_white_space c = (c == 32 || c == 9) || is_newline c

abbrev pub hyphen : ℕ
hyphen = 45

abbrev pub apostrophe : ℕ
apostrophe = 39

abbrev pub quotation_mark : ℕ
quotation_mark = 34

-- the first character, or 0
abbrev pub first : List ℕ → ℕ
first text = slice_index text 0

-- A character of a bstring: 0, 1, or white space, which means nothing (X.680, 12.10).
abbrev pub is_binary_character : ℕ → Bool
is_binary_character c = (c == 48 || c == 49) || is_white_space c

-- A character of an hstring: a digit, one of A to F, or white space (X.680, 12.12).
abbrev pub is_hex_character : ℕ → Bool
is_hex_character c = (is_ascii_digit c || (nat_le 65 c && nat_le c 70)) || is_white_space c

-- A letter or a digit, or a hyphen before one (X.680, 12.2.1).
abbrev pub is_in_name : ℕ → ℕ → Bool
is_in_name c next = is_ascii_alphanumeric c || (c == hyphen && is_ascii_alphanumeric next)
