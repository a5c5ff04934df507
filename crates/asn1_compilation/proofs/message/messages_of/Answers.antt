use Rattle.std.proofs.Common.{◌+◌, ◌<◌, List, length, map, take, subst, sym, arith}
use Rattle.std.specs.Borrow.{Bor}
use Rattle.std.specs.List.{AllZip}
use Rattle.asn1_resolved.specs.declared.problem.Problem.{Problem}
use Rattle.asn1_compilation.specs.Messages.{IsMessageOf}
use Rattle.asn1_compilation.specs.declared.message.Message.{Message}
use Rattle.asn1_compilation.proofs.Told.{told_more}
use Rattle.asn1_compilation.proofs.message.messages_of.Goals as goal

pub loop-problem-preserved : goal.loop-problem-preserved
loop-problem-preserved c =
    let problems = c.deref-problem-items.result.now in
    let index = c.loop-problem.problem-index in
    let within : index < length problems = omega arith in
    subst (λ messages. AllZip IsMessageOf (map (λ (problem : Bor Problem). problem.now) (take (index + 1) problems)) messages)
    (sym {A = List Message} c.in_ok-push.ensures.items)
    (told_more problems index c.problem-item.result c.loop-problem.messages.items c.in_ok-message_of.field-0 within c.loop-problem.invariant
    (subst (λ (problem : Bor Problem). IsMessageOf problem.now c.in_ok-message_of.field-0) c.problem-item.is c.in_ok-message_of.ensures))
