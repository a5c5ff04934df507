use Rattle.std.proofs.Common.{map, take}
use Rattle.std.specs.List.{AllZip}
use Rattle.asn1_compilation.specs.Messages.{IsMessageOf}
use Rattle.asn1_compilation.proofs.message.messages_of.Given as goal

abbrev pub invariant-loop-problem : goal.invariant-loop-problem
invariant-loop-problem l = AllZip IsMessageOf (map (λ problem. problem.now) (take l.problem-index l.problem-items)) l.messages.items
