use Rattle.std.proofs.Common.{◌≡◌, take}
use Rattle.asn1_bounds.specs.Sets.{set_of_all}
use Rattle.asn1_bounds.proofs.constraints.Constraints.new.Given as goal

abbrev pub invariant-loop-constraint : goal.invariant-loop-constraint
invariant-loop-constraint l = l.set ≡ set_of_all (take l.constraint-index l.constraints)
