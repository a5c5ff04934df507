-- The names that modules define.
use Rattle.std.specs.Prelude.{◌≡◌, ℕ, Bool, ◌&&◌, List}
use Rattle.std.specs.List.{Any, list_any}
use Rattle.std.specs.Str.{bytes_eq}
use Rattle.asn1_names.specs.declared.names.DefinedName.{DefinedName}

-- The definition has this name, and is in this module.
abbrev pub HasName : List ℕ → List ℕ → DefinedName → Type 0
HasName modulereference name definition = (definition.module.now ≡ modulereference) × (definition.name.now ≡ name)

-- A definition of this module has the name (X.680, 16.1 and 16.2).
abbrev pub Defines : List DefinedName → List ℕ → List ℕ → Type 0
Defines defined modulereference name = Any (HasName modulereference name) defined

-- whether the definition has this name, and is in this module
abbrev pub has_name : List ℕ → List ℕ → DefinedName → Bool
has_name modulereference name definition = bytes_eq definition.module.now modulereference && bytes_eq definition.name.now name

-- whether a definition of this module has the name
abbrev pub is_defined : List DefinedName → List ℕ → List ℕ → Bool
is_defined defined modulereference name = list_any (has_name modulereference name) defined
