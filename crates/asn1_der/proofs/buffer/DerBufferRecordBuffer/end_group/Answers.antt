use Rattle.asn1_der.proofs.WrittenElements.{group_ended}
use Rattle.asn1_der.proofs.buffer.DerBufferRecordBuffer.end_group.Goals as goal

pub returns : goal.returns
returns c = λ table rs w wrote. group_ended c.args.self.now.outer.items c.args.self.now.bytes.items table rs w wrote
