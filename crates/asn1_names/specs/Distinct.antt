-- Names that a module defines twice.
use Rattle.std.specs.Prelude.{Bool, List, [], ◌∷◌, ◌++◌, Option}
use Rattle.std.specs.List.{cons_option, find}
use Rattle.std.specs.Option.{option_map}
use Rattle.asn1_names.specs.declared.names.DefinedName.{DefinedName}
use Rattle.asn1_names.specs.declared.doubled.DoubledName.{DoubledName}
use Rattle.asn1_names.specs.Definitions.{HasName, has_name}

-- Two definitions of one module have different names (X.680, 13.15).
abbrev pub IsDistinct : DefinedName → DefinedName → Type 0
IsDistinct earlier definition = ¬ HasName definition.module.now definition.name.now earlier

-- whether an earlier definition has the name of this one, and is in its module
abbrev pub has_same_name : DefinedName → DefinedName → Bool
has_same_name definition earlier = has_name definition.module.now definition.name.now earlier

-- the first of the earlier definitions that has the name of this one, with this one
abbrev pub doubled_by : List DefinedName → DefinedName → Option DoubledName
doubled_by earlier definition = option_map (λ first. record { first = first; again = definition }) (find (has_same_name definition) earlier)

-- each definition whose name an earlier one has, after these definitions
abbrev pub doubled : List DefinedName → List DefinedName → List DoubledName
doubled earlier [] = []
doubled earlier (definition ∷ later) = cons_option (doubled_by earlier definition) (doubled (earlier ++ definition ∷ []) later)
