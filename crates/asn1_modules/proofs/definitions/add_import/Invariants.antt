use Rattle.std.proofs.Common.{◌≡◌, ◌++◌, map, take}
use Rattle.asn1_modules.specs.Places.{place_in}
use Rattle.asn1_modules.proofs.definitions.add_import.Given as goal

abbrev pub invariant-loop-name : goal.invariant-loop-name
invariant-loop-name l =
    map (λ imported. imported.place) l.names.items
    ≡ map (λ imported. imported.place) l.initial.names.items ++ map (place_in l.index) (take l.name-index l.import.names.items)
