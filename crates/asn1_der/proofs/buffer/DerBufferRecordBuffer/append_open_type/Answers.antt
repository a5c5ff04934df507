use Rattle.std.proofs.Common.{refl, sym, ◌∙◌}
use Rattle.asn1_der.proofs.WrittenElements.{appended}
use Rattle.asn1_model.specs.Records.{open_type}
use Rattle.asn1_der.proofs.buffer.DerBufferRecordBuffer.append_open_type.Goals as goal

pub returns : goal.returns
returns c = λ n w wrote.
    let old = c.args.self.now in
    let one = sym c.is_one_element.ensures ∙ c.if-not-is_one_element.false in
    appended old.outer.items old.bytes.items c.extend_from_slice.new.self.items (open_type n c.args.bytes.now) (record { added = c.args.bytes.now; is = (refl, one); joined = c.in_ok-extend_from_slice.ensures.items }) w wrote
