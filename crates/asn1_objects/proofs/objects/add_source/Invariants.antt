use Rattle.std.proofs.Common.{◌≡◌, ◌++◌, map, take}
use Rattle.std.specs.List.{flat_map}
use Rattle.asn1_objects.specs.ObjectPlaces.{objects_defined_in, place_of}
use Rattle.asn1_objects.proofs.objects.add_source.Given as goal

abbrev pub invariant-loop-module : goal.invariant-loop-module
invariant-loop-module l =
    map place_of l.definitions.items
    ≡ map place_of l.fn.definitions.items ++ flat_map (objects_defined_in l.index) (take l.module-index l.source.modules.now)
