use Rattle.std.proofs.Common.{◌≡◌, ◌++◌, take}
use Rattle.std.specs.List.{flat_map}
use Rattle.asn1_resolver.specs.Indices.{indices_in}
use Rattle.asn1_resolver.proofs.indices.list_indices.Given as goal

abbrev pub invariant-loop-defined : goal.invariant-loop-defined
invariant-loop-defined l =
    l.indices.items ≡ flat_map (λ defined. indices_in defined.definition.kind) (take l.defined-index l.schema.types.items)

abbrev pub invariant-loop-value : goal.invariant-loop-value
invariant-loop-value l = l.indices.items
    ≡ flat_map (λ defined. indices_in defined.definition.kind) l.schema.types.items
    ++ flat_map (λ defined. indices_in defined.definition.kind) (take l.value-index l.schema.values.items)
