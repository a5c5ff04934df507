use Rattle.std.proofs.Common.{◌≡◌, ◌++◌, map, take}
use Rattle.std.specs.List.{flat_map}
use Rattle.asn1_modules.specs.Places.{imported_by}
use Rattle.asn1_modules.proofs.definitions.add_imported.Given as goal

abbrev pub invariant-loop-import : goal.invariant-loop-import
invariant-loop-import l =
    map (λ imported. imported.place) l.names.items
    ≡ map (λ imported. imported.place) l.initial.names.items ++ flat_map (imported_by l.index) (take l.import-index l.module.imports.items)
