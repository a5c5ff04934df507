-- Names that are like another.
use Rattle.std.specs.Prelude.{◌≤◌, ℕ, ◌/◌, nat_eq, nat_lt, if◌then◌else◌, List, length}
use Rattle.std.specs.List.{All, Contains}
use Rattle.strsim.specs.Edits.{levenshtein_row}
use Rattle.asn1_names.specs.declared.names.DefinedName.{DefinedName}

-- How many letters have to be put in, left out or replaced between a name and that of a definition.
abbrev pub edits : List ℕ → DefinedName → ℕ
edits name definition = levenshtein_row nat_eq name definition.name.now (length definition.name.now)

-- how many letters of a name may differ from those of the name that is suggested: a third, and at least one
abbrev pub most_edits : List ℕ → ℕ
most_edits name = if nat_lt (length name) 6 then 1 else length name / 3

-- The definition is one of these, its name is like the name, and none is more like it.
pub record IsNearest (defined : List DefinedName) (name : List ℕ) (nearest : DefinedName) : Type 0 where
  pub listed : Contains defined nearest
  pub like : edits name nearest ≤ most_edits name
  pub least : All (λ other. edits name nearest ≤ edits name other) defined
