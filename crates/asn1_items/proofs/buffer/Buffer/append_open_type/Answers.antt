use Rattle.std.proofs.Common.{[], refl}
use Rattle.asn1_model.specs.Records.{open_type}
use Rattle.asn1_items.specs.Buffers.{inward}
use Rattle.asn1_items.proofs.Writing.{appended, tells_of_record}
use Rattle.asn1_items.proofs.buffer.Buffer.append_open_type.Goals as goal

pub returns-clause-written : goal.returns-clause-written
returns-clause-written c = λ marks n w wrote.
    let old = c.args.self.now in
    let r = open_type n c.args.bytes.now in (
      appended marks w old.scope_start (inward [] old.far_starts.items) (inward [] old.groups.items) old.bytes.items c.args.bytes.now c.extend_from_slice.new.self.items r (refl, tt) c.in_ok-extend_from_slice.ensures.items wrote.0,
      tells_of_record w r refl,
    )
