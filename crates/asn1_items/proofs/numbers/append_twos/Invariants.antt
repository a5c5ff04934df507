use Rattle.std.proofs.Common.{◌≡◌, ◌++◌, take}
use Rattle.std.specs.List.{flat_map}
use Rattle.asn1_items.specs.Numbers.{two_bytes}
use Rattle.asn1_items.proofs.numbers.append_twos.Given as goal

abbrev pub invariant-loop-number : goal.invariant-loop-number
invariant-loop-number l = l.bytes.items ≡ l.initial.bytes.items ++ flat_map (λ n. two_bytes n) (take l.number-index l.numbers)
