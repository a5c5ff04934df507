use Rattle.std.proofs.Common.{◌≡◌, ◌++◌, map, drop}
use Rattle.asn1_modules.specs.Places.{places_from}
use Rattle.asn1_objects.specs.ObjectPlaces.{object_places, objects_defined_in, place_of}
use Rattle.asn1_objects.proofs.objects.objects_of.Given as goal

abbrev pub invariant-loop-index : goal.invariant-loop-index
invariant-loop-index l =
    map place_of l.definitions.items ++ places_from objects_defined_in l.index (drop l.index l.sources) ≡ object_places l.sources
