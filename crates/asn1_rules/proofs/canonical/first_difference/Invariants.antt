use Rattle.std.proofs.Common.{◌≡◌, take}
use Rattle.asn1_rules.proofs.canonical.first_difference.Given as goal

-- the bytes before are the same
abbrev pub invariant-loop-index : goal.invariant-loop-index
invariant-loop-index l = take l.index l.left ≡ take l.index l.right
