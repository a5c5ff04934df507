use Rattle.std.proofs.Common.{◌≡◌, ◌≤◌, length}
use Rattle.asn1_values.specs.Numbers.{magnitude}
use Rattle.asn1_items.proofs.numbers.significant.Given as goal

abbrev pub invariant-loop-rest : goal.invariant-loop-rest
invariant-loop-rest l = record { number : magnitude l.rest ≡ magnitude l.initial.rest; no_longer : length l.rest ≤ length l.initial.rest }

abbrev pub decreases-loop-rest : goal.decreases-loop-rest
decreases-loop-rest l = length l.rest
