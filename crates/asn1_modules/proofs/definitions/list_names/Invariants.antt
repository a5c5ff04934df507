use Rattle.std.proofs.Common.{◌≡◌, ◌++◌, map, drop, take}
use Rattle.std.specs.List.{flat_map}
use Rattle.asn1_modules.specs.Places.{defined_in, defined_places, imported_in, imported_places, places_from}
use Rattle.asn1_modules.proofs.definitions.list_names.Given as goal

abbrev pub invariant-loop-index : goal.invariant-loop-index
invariant-loop-index l = record {
  defined : map (λ defined. defined.place) l.defined.items ++ places_from defined_in l.index (drop l.index l.sources) ≡ defined_places l.sources;
  imported : map (λ imported. imported.place) l.imported.items ++ places_from imported_in l.index (drop l.index l.sources) ≡ imported_places l.sources;
}

abbrev pub invariant-loop-module : goal.invariant-loop-module
invariant-loop-module l = record {
  defined : map (λ defined. defined.place) l.defined.items
      ≡ map (λ defined. defined.place) l.initial.defined.items ++ flat_map (defined_in l.index) (take l.module-index l.source.modules.now);
  imported : map (λ imported. imported.place) l.imported.items
      ≡ map (λ imported. imported.place) l.initial.imported.items ++ flat_map (imported_in l.index) (take l.module-index l.source.modules.now);
}
