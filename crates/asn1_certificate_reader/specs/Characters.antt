-- The characters of strings.
use Rattle.std.proofs.Math.Utf8.{scalar}
use Rattle.std.specs.Char.Utf16.{utf16_lossy_chars}
use Rattle.std.specs.List.{list_all}
use Rattle.std.specs.Prelude.{ℕ, [], List, None, Option, Some, if◌then◌else◌, map, unwrap_or}
use Rattle.std.specs.Str.{chars}
use Rattle.std.specs.String.{string_bytes}
use Rattle.asn1_contents.specs.UniversalStrings.{universal_characters}
use Rattle.asn1_values.specs.Alphabets.{is_visible}
use Rattle.asn1_x509.specs.declared.directory_string.DirectoryString.{DirectoryString}
use Rattle.asn1_x509.specs.declared.directory_string.DirectoryString.TheVariants.{TeletexString, PrintableString, UniversalString, Utf8String, BmpString}

-- the character of a unit of a TeletexString, read as Latin-1, which has the first 256 characters of Unicode; and U+FFFD where a unit
-- is the number of no character
abbrev pub teletex_character : ℕ → ℕ
teletex_character unit = if scalar unit then unit else 0xFFFD

-- the characters of octets, if each is that of a printable character of ASCII: a graphic character or the space
abbrev pub visible_characters : List ℕ → Option (List ℕ)
visible_characters octets = if list_all is_visible octets then Some octets else None

-- The characters of a DirectoryString (RFC 5280, 4.1.2.4). The units of a BMPString are read as UTF-16, with U+FFFD for each half of a
-- pair that is alone. The octets of a UniversalString are always those of characters.
abbrev pub directory_characters : DirectoryString → List ℕ
directory_characters (TeletexString units) = map teletex_character units
directory_characters (PrintableString text) = chars text
directory_characters (UniversalString octets) = unwrap_or (universal_characters octets) []
directory_characters (Utf8String text) = chars (string_bytes text)
directory_characters (BmpString units) = utf16_lossy_chars units
