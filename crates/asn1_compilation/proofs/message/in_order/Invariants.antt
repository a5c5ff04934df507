use Rattle.std.proofs.Common.{◌≡◌, map, take}
use Rattle.asn1_compilation.proofs.message.in_order.Given as goal

abbrev pub invariant-loop-problem : goal.invariant-loop-problem
invariant-loop-problem l = map (λ problem. problem.now) l.order.items ≡ take l.problem-index l.problems
