-- The values of attributes in the text of a name (RFC 4514, 2.4).
use Rattle.std.specs.Prelude.{ℕ, zero, suc, ◌+◌, Bool, ◌||◌, ◌&&◌, ◌==◌, not, List, [], ◌++◌, length, slice_index, codes, encode_utf8, if◌then◌else◌}
use Rattle.std.specs.List.{flat_map}
use Rattle.asn1_values.specs.Shown.{is_shown}
use Rattle.asn1_values.specs.Text.{byte_text}

-- a character that a line cannot show
abbrev pub is_written_as_octets : ℕ → Bool
is_written_as_octets c = not (is_shown c)

-- one of  " # + , ; < > \
abbrev pub is_special : ℕ → Bool
is_special c = c == 34 || c == 35 || c == 43 || c == 44 || c == 59 || c == 60 || c == 62 || c == 92

-- an octet as two digits after a backslash
abbrev pub octet_escaped : ℕ → List ℕ
octet_escaped octet = codes "\\" ++ byte_text octet

-- the octets of such a character in UTF-8, each so
abbrev pub control_text : ℕ → List ℕ
control_text c = flat_map octet_escaped (encode_utf8 c)

-- a character outside names: such characters as their octets, and a backslash twice
abbrev pub visible : ℕ → List ℕ
visible c =
    if is_written_as_octets c then control_text c
    else (if c == 92 then codes "\\\\" else encode_utf8 c)

-- whether a character is special, or a space at an end
abbrev pub needs_backslash : Bool → ℕ → Bool
needs_backslash at_end c = is_special c || (at_end && c == 32)

-- a character, which is the first or the last of its value or not
abbrev pub escaped : Bool → ℕ → List ℕ
escaped at_end c =
    if is_written_as_octets c then control_text c
    else (if needs_backslash at_end c then codes "\\" ++ encode_utf8 c else encode_utf8 c)

-- whether this is the index of the first or the last of this many characters
abbrev pub is_end : ℕ → ℕ → Bool
is_end index count = index == 0 || index + 1 == count

-- a value from its first character on, up to this many
abbrev pub escaped_first : List ℕ → ℕ → List ℕ
escaped_first cs zero = []
escaped_first cs (suc n) = escaped_first cs n ++ escaped (is_end n (length cs)) (slice_index cs n)

-- all of them
abbrev pub escaped_text : List ℕ → List ℕ
escaped_text cs = escaped_first cs (length cs)
