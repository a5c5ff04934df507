-- Names and values.
use Rattle.std.specs.Prelude.{ℕ, ◌==◌, List, [], ◌++◌, None, Option, Some, codes, if◌then◌else◌, length}
use Rattle.asn1_ldap_text.specs.Escapes.{escaped_text}
use Rattle.asn1_ldap_text.specs.declared.escapes.Place.TheVariants.{Quotes, Word}

-- octets in quotes
abbrev pub quoted : List ℕ → List ℕ
quoted octets = codes "\"" ++ (escaped_text Quotes octets ++ codes "\"")

-- a name without quotes
abbrev pub word : List ℕ → List ℕ
word octets = escaped_text Word octets

-- a label, and octets in quotes
abbrev pub named : List ℕ → List ℕ → List ℕ
named label octets = label ++ quoted octets

-- the same after a space
abbrev pub after_space : List ℕ → List ℕ
after_space octets = named (codes " ") octets

-- the same, if there are any octets
abbrev pub named_unless_empty : List ℕ → List ℕ → List ℕ
named_unless_empty label octets = if length octets == 0 then [] else named label octets

-- a label, and a name without quotes, if there is one
abbrev pub optional_word : List ℕ → Option (List ℕ) → List ℕ
optional_word label (Some name) = label ++ word name
optional_word label None = []
