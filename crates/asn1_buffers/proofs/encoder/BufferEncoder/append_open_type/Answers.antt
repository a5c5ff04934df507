use Rattle.std.proofs.Common.{refl}
use Rattle.asn1_buffers.proofs.EncodersOverBuffers.{appended, not_appended}
use Rattle.asn1_buffers.specs.Encoder.{in_one_order}
use Rattle.asn1_laws.proofs.WritingUpToOrder.{appends, fails}
use Rattle.asn1_model.specs.Records.{open_type}
use Rattle.asn1_buffers.proofs.encoder.BufferEncoder.append_open_type.Goals as goal

pub returns-in-Ok : goal.returns-in-Ok
returns-in-Ok g c = λ n.
    let F = g.B.RecordBuffer.form in
    appends (in_one_order F) (appended F _ _ (open_type n c.args.bytes.now) refl (c.in-Ok.ensures n) refl refl c.if-self.false c.if-self.false)

pub returns-in-Err : goal.returns-in-Err
returns-in-Err g c = λ n.
    let F = g.B.RecordBuffer.form in
    fails (in_one_order F) (not_appended F _ _ (open_type n c.args.bytes.now) c.refuse.result (λ custom. c.in-Err.ensures n (c.refuse.ensures.rejection custom)) c.refuse.ensures.not_too_deep c.refuse.ensures.not_failed c.if-self.false c.refuse.ensures.has_failed)
