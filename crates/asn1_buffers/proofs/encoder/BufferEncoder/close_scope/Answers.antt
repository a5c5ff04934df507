use Rattle.std.proofs.Common.{◌≡◌, ◌+◌, refl, suc, arith}
use Rattle.asn1_buffers.proofs.EncodersOverBuffers.{all_is_left, scope_is_closed, scope_is_not_closed}
use Rattle.asn1_buffers.specs.Encoder.{in_one_order}
use Rattle.asn1_laws.proofs.WritingUpToOrder.{scope_is_not_closed as not_closed_in_any_order}
use Rattle.asn1_buffers.proofs.encoder.BufferEncoder.close_scope.Goals as goal

pub returns-in-Ok-clause-closed : goal.returns-in-Ok-clause-closed
returns-in-Ok-clause-closed g c =
    let F = g.B.RecordBuffer.form in
    let one_more : c.args.self.now.depth_left + 1 ≡ suc c.args.self.now.depth_left = omega arith in
    scope_is_closed F _ _ c.in-Ok.ensures refl c.if-self.false c.if-self.false one_more

pub returns-in-Err-clause-closed : goal.returns-in-Err-clause-closed
returns-in-Err-clause-closed g c =
    let F = g.B.RecordBuffer.form in
    not_closed_in_any_order (in_one_order F) (scope_is_not_closed F _ _ c.refuse-in-Err.result (λ custom h rs w wrote. c.in-Err.ensures h rs w wrote.0 (c.refuse-in-Err.ensures.rejection custom)) c.refuse-in-Err.ensures.not_too_deep c.refuse-in-Err.ensures.not_failed c.if-self.false c.refuse-in-Err.ensures.has_failed)

pub returns-in-Ok-clause-none_open : goal.returns-in-Ok-clause-none_open
returns-in-Ok-clause-none_open g c = λ w wrote none.
    absurd (c.if-self-2.false (all_is_left g.B.RecordBuffer.form c.args.self.now w wrote none))
