-- The definitions to which a schema refers, by their indices.
use Rattle.std.specs.Prelude.{ℕ, ◌<◌, List, [], ◌∷◌, length}
use Rattle.std.specs.List.{All, flat_map}
use Rattle.asn1_resolved.specs.TypesInside.{types_in, types_of}
use Rattle.asn1_resolved.specs.declared.schema.Schema.{Schema}
use Rattle.asn1_resolved.specs.declared.types.TypeKind.{TypeKind, Reference}

-- the index of a reference
abbrev pub index_of_reference : TypeKind → List ℕ
index_of_reference (Reference index) = index ∷ []
index_of_reference kind = []

-- those of a type and of all types inside it
abbrev pub indices_in : TypeKind → List ℕ
indices_in kind = flat_map index_of_reference (types_in kind)

-- those of all types of a schema
abbrev pub indices_of : Schema → List ℕ
indices_of schema = flat_map index_of_reference (types_of schema)

-- Each reference of a schema, at any depth, is to a definition of it.
abbrev pub HasKnownReferences : Schema → Type 0
HasKnownReferences schema = All (λ index. index < length schema.types.items) (indices_of schema)
