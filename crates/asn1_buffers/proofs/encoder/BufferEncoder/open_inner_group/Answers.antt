use Rattle.std.proofs.Common.{refl}
use Rattle.asn1_buffers.proofs.EncodersOverBuffers.{group_is_not_opened, group_is_opened}
use Rattle.asn1_buffers.specs.Encoder.{in_one_order}
use Rattle.asn1_laws.proofs.WritingUpToOrder.{group_is_not_open, group_is_open}
use Rattle.asn1_buffers.proofs.encoder.BufferEncoder.open_inner_group.Goals as goal

pub returns-in-Ok : goal.returns-in-Ok
returns-in-Ok g c = λ table.
    let F = g.B.RecordBuffer.form in
    group_is_open (in_one_order F) (group_is_opened F _ _ table (c.in-Ok.ensures table) refl c.if-self.false c.if-self.false refl)

pub returns-in-Err : goal.returns-in-Err
returns-in-Err g c = λ table.
    let F = g.B.RecordBuffer.form in
    group_is_not_open (in_one_order F) (group_is_not_opened F _ _ c.refuse.result (λ custom. c.refuse.ensures.rejection custom (c.in-Err.ensures table)) c.refuse.ensures.not_too_deep c.refuse.ensures.not_failed c.if-self.false c.refuse.ensures.has_failed)
