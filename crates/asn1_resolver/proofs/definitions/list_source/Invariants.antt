use Rattle.std.proofs.Common.{◌≡◌, ◌++◌, map, take}
use Rattle.std.specs.List.{flat_map}
use Rattle.asn1_resolver.specs.TypePlaces.{types_defined_in}
use Rattle.asn1_resolver.proofs.definitions.list_source.Given as goal

abbrev pub invariant-loop-module_index : goal.invariant-loop-module_index
invariant-loop-module_index l =
    map (λ defined. defined.place) l.definitions.types.items
    ≡ map (λ defined. defined.place) l.fn.definitions.types.items ++ flat_map (types_defined_in l.index) (take l.module_index l.source.modules.now)
