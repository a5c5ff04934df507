-- Octets in a text (RFC 4515, section 3: `valueencoding`).
use Rattle.std.specs.Prelude.{ℕ, Bool, not, ◌||◌, ◌&&◌, ◌==◌, List, [], ◌∷◌, ◌++◌, codes, if◌then◌else◌}
use Rattle.std.specs.Int.{is_in_range}
use Rattle.std.specs.List.{flat_map}
use Rattle.asn1_values.specs.Text.{byte_text}
use Rattle.asn1_ldap_text.specs.declared.escapes.Place.{Place}
use Rattle.asn1_ldap_text.specs.declared.escapes.Place.TheVariants.{Assertion, Quotes, Word}

-- a printable character of ASCII, a space among them
abbrev pub is_printable : ℕ → Bool
is_printable octet = is_in_range 32 126 octet

-- one of these, or a line feed
abbrev pub is_visible : ℕ → Bool
is_visible octet = octet == 10 || is_printable octet

-- one of  ( ) * \  , which UTF1SUBSET leaves out beside NUL
abbrev pub is_special_in_assertion : ℕ → Bool
is_special_in_assertion octet = octet == 40 || octet == 41 || octet == 42 || octet == 92

-- a quote, or a backslash
abbrev pub is_special_in_quotes : ℕ → Bool
is_special_in_quotes octet = octet == 34 || octet == 92

-- a space, a quote, or one of  ( ) , : < = > \ ~
abbrev pub is_special_in_word : ℕ → Bool
is_special_in_word octet = octet == 32 || octet == 34 || octet == 40 || octet == 41 || octet == 44 || octet == 58 ||
    octet == 60 || octet == 61 || octet == 62 || octet == 92 || octet == 126

-- a character that means something at a place
abbrev pub is_special : Place → ℕ → Bool
is_special Assertion octet = is_special_in_assertion octet
is_special Quotes octet = is_special_in_quotes octet
is_special Word octet = is_special_in_word octet

-- an octet that is written as it is at a place
abbrev pub is_plain : Place → ℕ → Bool
is_plain place octet = is_printable octet && not (is_special place octet)

-- the two hexadecimal digits of an octet after a backslash (`escaped`)
abbrev pub octet_escaped : ℕ → List ℕ
octet_escaped octet = codes "\\" ++ byte_text octet

-- an octet
abbrev pub octet_text : Place → ℕ → List ℕ
octet_text place octet = if is_plain place octet then octet ∷ [] else octet_escaped octet

-- octets
abbrev pub escaped_text : Place → List ℕ → List ℕ
escaped_text place octets = flat_map (octet_text place) octets
