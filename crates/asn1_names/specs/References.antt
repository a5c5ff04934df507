-- References to definitions.
use Rattle.std.specs.Prelude.{◌≡◌, ◌⊎◌, ℕ, Bool, ◌&&◌, ◌||◌, not, List, Option, None, Some, map}
use denote.Ref.{Bor}
use Rattle.std.specs.List.{Any, filter, list_any}
use Rattle.std.specs.Str.{bytes_eq}
use Rattle.asn1_names.specs.declared.names.DefinedName.{DefinedName}
use Rattle.asn1_names.specs.declared.names.ImportedName.{ImportedName}
use Rattle.asn1_names.specs.declared.names.UsedName.{UsedName}
use Rattle.asn1_names.specs.Definitions.{Defines, is_defined}

-- The module of the reference imports its name, from a module that defines it (X.680, 13.16).
abbrev pub Provides : List DefinedName → UsedName → ImportedName → Type 0
Provides defined used import =
    ((import.module.now ≡ used.module.now) × (import.name.now ≡ used.name.now)) × Defines defined import.from.now used.name.now

-- A reference with this qualifier is to a definition: of the module that is named in front of the dot; or else of its own
-- module, or of one from which its own imports the name (X.680, 14.1).
abbrev pub ResolvesWith : List DefinedName → List ImportedName → UsedName → Option (Bor (List ℕ)) → Type 0
ResolvesWith defined imported used (Some modulereference) = Defines defined modulereference.now used.name.now
ResolvesWith defined imported used None =
    Defines defined used.module.now used.name.now ⊎ Any (Provides defined used) imported

-- The reference is to a definition.
abbrev pub IsResolved : List DefinedName → List ImportedName → UsedName → Type 0
IsResolved defined imported used = ResolvesWith defined imported used used.qualifier

-- the name that is imported, as one of the module that imports it
abbrev pub name_brought_in : ImportedName → DefinedName
name_brought_in import = record { «module» = import.module; name = import.name; place = import.place }

-- the names that modules import from modules that define them
abbrev pub brought_in : List DefinedName → List ImportedName → List DefinedName
brought_in defined imported =
    map name_brought_in (filter (λ import. is_defined defined import.from.now import.name.now) imported)

-- whether the module of the reference imports its name, from a module that defines it
abbrev pub provides : List DefinedName → UsedName → ImportedName → Bool
provides defined used import =
    (bytes_eq import.module.now used.module.now && bytes_eq import.name.now used.name.now)
    && is_defined defined import.from.now used.name.now

-- whether a reference with this qualifier is to a definition
abbrev pub resolves_with : List DefinedName → List ImportedName → UsedName → Option (Bor (List ℕ)) → Bool
resolves_with defined imported used (Some modulereference) = is_defined defined modulereference.now used.name.now
resolves_with defined imported used None =
    is_defined defined used.module.now used.name.now || list_any (provides defined used) imported

-- whether the reference is to a definition
abbrev pub is_resolved : List DefinedName → List ImportedName → UsedName → Bool
is_resolved defined imported used = resolves_with defined imported used used.qualifier

abbrev pub is_undefined : List DefinedName → List ImportedName → UsedName → Bool
is_undefined defined imported used = not (is_resolved defined imported used)
