use Rattle.std.proofs.Common.{◌≡◌, ◌-◌, refl, suc, arith}
use Rattle.asn1_buffers.proofs.EncodersOverBuffers.{scope_is_not_opened, scope_is_opened}
use Rattle.asn1_buffers.specs.Encoder.{in_one_order}
use Rattle.asn1_laws.proofs.WritingUpToOrder.{scope_is_not_open, scope_is_open}
use Rattle.asn1_buffers.proofs.encoder.BufferEncoder.open_scope.Goals as goal

pub returns-in-Ok : goal.returns-in-Ok
returns-in-Ok g c = λ h kind tag.
    let F = g.B.RecordBuffer.form in
    let one_less : c.args.self.now.depth_left ≡ suc (c.args.self.now.depth_left - 1) = omega arith in
    scope_is_open (in_one_order F) (scope_is_opened F _ _ h (c.in-Ok.ensures h kind tag) refl c.if-self.false c.if-self.false one_less)

pub returns-in-Err : goal.returns-in-Err
returns-in-Err g c = λ h kind tag.
    let F = g.B.RecordBuffer.form in
    scope_is_not_open (in_one_order F) (scope_is_not_opened F _ _ h c.refuse.result (λ custom. c.refuse.ensures.rejection custom (c.in-Err.ensures h kind tag)) c.refuse.ensures.not_too_deep c.refuse.ensures.not_failed c.if-self-eq0.false c.if-self.false c.refuse.ensures.has_failed)
