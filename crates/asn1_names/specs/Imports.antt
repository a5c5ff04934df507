-- Names behind IMPORTS.
use Rattle.std.specs.Prelude.{Bool, not, List}
use Rattle.asn1_names.specs.declared.names.DefinedName.{DefinedName}
use Rattle.asn1_names.specs.declared.names.ImportedName.{ImportedName}
use Rattle.asn1_names.specs.Definitions.{Defines, is_defined}

-- The module behind FROM defines the name (X.680, 13.16).
abbrev pub IsKnown : List DefinedName → ImportedName → Type 0
IsKnown defined import = Defines defined import.from.now import.name.now

abbrev pub is_unknown : List DefinedName → ImportedName → Bool
is_unknown defined import = not (is_defined defined import.from.now import.name.now)
