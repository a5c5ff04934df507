use Rattle.std.proofs.Common.{◌≡◌, ◌++◌, map, take}
use Rattle.asn1_modules.specs.Places.{place_in}
use Rattle.asn1_modules.proofs.definitions.add_defined.Given as goal

abbrev pub invariant-loop-assignment : goal.invariant-loop-assignment
invariant-loop-assignment l =
    map (λ defined. defined.place) l.names.items
    ≡ map (λ defined. defined.place) l.initial.names.items
    ++ map (λ assignment. place_in l.index assignment.name) (take l.assignment-index l.module.assignments.items)
