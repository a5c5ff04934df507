use Rattle.asn1_der.proofs.WrittenElements.{scalar_appended}
use Rattle.asn1_der.proofs.buffer.DerBufferRecordBuffer.append_scalar.Goals as goal

pub returns-in-Ok : goal.returns-in-Ok
returns-in-Ok c = λ k n x is w wrote.
    let old = c.args.self.now in
    scalar_appended old.outer.items old.bytes.items c.append_primitive.new.bytes.items c.args.tag k n x _ is c.in-Ok.ensures.appended w wrote
