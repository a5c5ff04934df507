use Rattle.std.proofs.Common.{refl}
use Rattle.asn1_buffers.proofs.EncodersOverBuffers.{appended, not_appended}
use Rattle.asn1_buffers.specs.Encoder.{in_one_order}
use Rattle.asn1_laws.proofs.WritingUpToOrder.{appends, fails}
use Rattle.asn1_model.specs.Records.{scalar}
use Rattle.asn1_buffers.proofs.encoder.BufferEncoder.append_scalar.Goals as goal

pub returns-in-Ok : goal.returns-in-Ok
returns-in-Ok g c = λ k n x is.
    let F = g.B.RecordBuffer.form in
    appends (in_one_order F) (appended F _ _ (scalar c.args.tag k n x) refl (c.in-Ok.ensures k n x is) refl refl c.if-self.false c.if-self.false)

pub returns-in-Err : goal.returns-in-Err
returns-in-Err g c = λ k n x is.
    let F = g.B.RecordBuffer.form in
    fails (in_one_order F) (not_appended F _ _ (scalar c.args.tag k n x) c.refuse.result (λ custom. c.in-Err.ensures k n x is (c.refuse.ensures.rejection custom)) c.refuse.ensures.not_too_deep c.refuse.ensures.not_failed c.if-self.false c.refuse.ensures.has_failed)
