use Rattle.asn1_buffers.proofs.EncodersOverBuffers.{finished}
use Rattle.asn1_buffers.proofs.encoder.BufferEncoder.finish.Goals as goal

pub returns : goal.returns
returns g c = λ rs w. finished g.B.RecordBuffer.form c.args.self c.finish.result.items c.finish.ensures rs w
