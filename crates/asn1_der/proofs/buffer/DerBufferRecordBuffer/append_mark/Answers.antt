use Rattle.asn1_der.proofs.WrittenElements.{mark_appended}
use Rattle.asn1_der.proofs.buffer.DerBufferRecordBuffer.append_mark.Goals as goal

pub returns : goal.returns
returns c = λ m kind w wrote. mark_appended c.args.self.now.outer.items c.args.self.now.bytes.items m w wrote
