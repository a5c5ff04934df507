use Rattle.std.proofs.Common.{◌≡◌, ◌++◌, map, drop}
use Rattle.asn1_modules.specs.Places.{places_from}
use Rattle.asn1_resolver.specs.TypePlaces.{type_places, types_defined_in}
use Rattle.asn1_resolver.proofs.definitions.list_definitions.Given as goal

abbrev pub invariant-loop-index : goal.invariant-loop-index
invariant-loop-index l =
    map (λ defined. defined.place) l.definitions.types.items ++ places_from types_defined_in l.index (drop l.index l.sources) ≡ type_places l.sources
