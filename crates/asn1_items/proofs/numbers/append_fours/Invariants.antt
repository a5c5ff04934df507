use Rattle.std.proofs.Common.{◌≡◌, ◌++◌, take}
use Rattle.std.specs.List.{flat_map}
use Rattle.asn1_items.specs.Numbers.{four_bytes}
use Rattle.asn1_items.proofs.numbers.append_fours.Given as goal

abbrev pub invariant-loop-number : goal.invariant-loop-number
invariant-loop-number l = l.bytes.items ≡ l.initial.bytes.items ++ flat_map (λ n. four_bytes n) (take l.number-index l.numbers)
