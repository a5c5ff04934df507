use Rattle.std.proofs.Common.{◌≡◌, map, take}
use Rattle.asn1_resolver.proofs.resolution.resolve_types.Given as goal

abbrev pub invariant-loop-index : goal.invariant-loop-index
invariant-loop-index l =
    map (λ type. type.place) l.types.items ≡ map (λ defined. defined.place) (take l.index l.definitions.types.items)
