-- Definitions that are found by their names.
use Rattle.std.specs.Prelude.{◌≡◌, ℕ, ◌&&◌, List, Option}
use Rattle.std.specs.HashMap.{get_by}
use Rattle.std.specs.List.{position}
use Rattle.std.specs.Str.{bytes_eq}
use Rattle.asn1_names.specs.declared.index.NameIndex.{NameIndex}
use Rattle.asn1_names.specs.declared.names.DefinedName.{DefinedName}
use Rattle.asn1_names.specs.Definitions.{has_name}

-- the position that the index has under a name of a module
abbrev pub listed : NameIndex → List ℕ → List ℕ → Option ℕ
listed index modulereference name =
    get_by (λ key. bytes_eq modulereference key.0.now && bytes_eq name key.1.now) index.first

-- The index has, under each name, the position of its first definition.
pub record IsIndexOf (defined : List DefinedName) (index : NameIndex) : Type 0 where
  pub first : (modulereference name : List ℕ) → listed index modulereference name ≡ position (has_name modulereference name) defined
