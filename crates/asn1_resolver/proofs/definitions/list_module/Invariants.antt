use Rattle.std.proofs.Common.{◌≡◌, ◌++◌, map, take}
use Rattle.std.specs.List.{flat_map}
use Rattle.asn1_resolver.specs.TypePlaces.{type_defined_by}
use Rattle.asn1_resolver.proofs.definitions.list_module.Given as goal

abbrev pub invariant-loop-assignment_index : goal.invariant-loop-assignment_index
invariant-loop-assignment_index l =
    map (λ defined. defined.place) l.definitions.types.items
    ≡ map (λ defined. defined.place) l.fn.definitions.types.items
    ++ flat_map (type_defined_by l.scope.source) (take l.assignment_index l.scope.module.now.assignments.items)
