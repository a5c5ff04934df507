-- The characters that a line can show.
use Rattle.std.specs.Prelude.{ℕ, Bool, ◌||◌, ◌==◌, not}
use Rattle.std.specs.Char.{is_control}
use Rattle.std.specs.Int.{is_in_range}

-- one of the characters that change the direction in which others are written, or end a line or a paragraph (Unicode's property
-- Bidi_Control, and its categories Zl and Zp)
abbrev pub turns_or_ends_line : ℕ → Bool
turns_or_ends_line c = c == 0x61C || is_in_range 0x200E 0x200F c || is_in_range 0x2028 0x202E c || is_in_range 0x2066 0x2069 c

-- none of these, and none of the controls of Unicode, which are those of ASCII and of Latin-1
abbrev pub is_shown : ℕ → Bool
is_shown c = not (is_control c || turns_or_ends_line c)
