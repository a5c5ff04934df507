use Rattle.std.proofs.Common.{◌≡◌, ◌++◌, map, take}
use Rattle.std.specs.List.{flat_map}
use Rattle.asn1_objects.specs.ObjectPlaces.{object_defined_by, place_of}
use Rattle.asn1_objects.proofs.objects.add_module.Given as goal

abbrev pub invariant-loop-assignment : goal.invariant-loop-assignment
invariant-loop-assignment l =
    map place_of l.definitions.items
    ≡ map place_of l.fn.definitions.items
    ++ flat_map (object_defined_by l.home.source) (take l.assignment-index l.home.module.now.assignments.items)
