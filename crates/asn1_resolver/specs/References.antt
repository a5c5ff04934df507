-- References to definitions (X.680, 13.16 and 14.1).
use Rattle.std.specs.Prelude.{◌≡◌, ◌⊎◌, ℕ, Bool, ◌&&◌, List, Option, None, Some}
use Rattle.std.specs.List.{All, Any, list_any}
use Rattle.std.specs.Str.{bytes_eq}
use denote.Ref.{Bor}
use Rattle.asn1_names.specs.References.{IsResolved}
use Rattle.asn1_names.specs.declared.names.ImportedName.{ImportedName}
use Rattle.asn1_names.specs.declared.names.Names.{Names}
use Rattle.asn1_names.specs.declared.names.UsedName.{UsedName}
use Rattle.asn1_resolver.specs.declared.definitions.Defined.{Defined}

-- The module of the reference imports its name from this module.
abbrev pub IsImportOf : UsedName → List ℕ → ImportedName → Type 0
IsImportOf used modulereference import =
    ((import.module.now ≡ used.module.now) × (import.name.now ≡ used.name.now)) × (import.from.now ≡ modulereference)

-- A reference with this qualifier can be to a definition of this module: the module that is named in front of the dot; or else
-- its own module, or one from which its own imports the name.
abbrev pub Reaches : List ImportedName → UsedName → List ℕ → Option (Bor (List ℕ)) → Type 0
Reaches imported used modulereference (Some qualifier) = modulereference ≡ qualifier.now
Reaches imported used modulereference None =
    (modulereference ≡ used.module.now) ⊎ Any (IsImportOf used modulereference) imported

-- The reference can be to this definition.
abbrev pub IsMeant : List ImportedName → UsedName → Defined → Type 0
IsMeant imported used defined =
    (defined.name.now ≡ used.name.now) × Reaches imported used defined.scope.name.now used.qualifier

-- whether the definition has this name, and is in this module
abbrev pub has_name : List ℕ → List ℕ → Defined → Bool
has_name modulereference name defined = bytes_eq defined.scope.name.now modulereference && bytes_eq defined.name.now name

-- whether the module of the reference imports its name from this module
abbrev pub is_import_of : UsedName → List ℕ → ImportedName → Bool
is_import_of used modulereference import =
    (bytes_eq import.module.now used.module.now && bytes_eq import.name.now used.name.now)
    && bytes_eq import.from.now modulereference

-- whether the definition has the name of the reference, and is in a module from which that of the reference imports it
abbrev pub is_provided : List ImportedName → UsedName → Defined → Bool
is_provided imported used defined =
    bytes_eq defined.name.now used.name.now && list_any (is_import_of used defined.scope.name.now) imported

-- Every reference is to a definition.
abbrev pub AreResolved : Names → Type 0
AreResolved names = All (IsResolved names.defined.items names.imported.items) names.used.items
