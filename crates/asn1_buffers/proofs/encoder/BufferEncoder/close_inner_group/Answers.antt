use Rattle.std.proofs.Common.{refl}
use Rattle.asn1_buffers.proofs.EncodersOverBuffers.{group_is_closed, group_is_not_closed}
use Rattle.asn1_buffers.specs.Encoder.{in_one_order}
use Rattle.asn1_laws.proofs.WritingUpToOrder.{group_is_closed as closed_in_any_order, group_is_not_closed as not_closed_in_any_order}
use Rattle.asn1_buffers.proofs.encoder.BufferEncoder.close_inner_group.Goals as goal

pub returns-in-Ok : goal.returns-in-Ok
returns-in-Ok g c =
    let F = g.B.RecordBuffer.form in
    closed_in_any_order (in_one_order F) (group_is_closed F _ _ c.in-Ok.ensures refl c.if-self.false c.if-self.false refl)

pub returns-in-Err : goal.returns-in-Err
returns-in-Err g c =
    let F = g.B.RecordBuffer.form in
    not_closed_in_any_order (in_one_order F)
    (group_is_not_closed F _ _ c.refuse.result (λ custom table rs w wrote. c.refuse.ensures.rejection custom (c.in-Err.ensures table rs w wrote)) c.refuse.ensures.not_too_deep c.refuse.ensures.not_failed c.if-self.false c.refuse.ensures.has_failed)
