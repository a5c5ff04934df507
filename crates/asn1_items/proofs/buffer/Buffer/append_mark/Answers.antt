use Rattle.std.proofs.Common.{[], sym}
use Rattle.asn1_model.specs.Records.{presence_mark}
use Rattle.asn1_items.specs.Buffers.{inward}
use Rattle.asn1_items.proofs.Writing.{appended, tells_of_mark}
use Rattle.asn1_items.proofs.buffer.Buffer.append_mark.Goals as goal

pub returns-clause-written : goal.returns-clause-written
returns-clause-written c = λ marks m w is wrote.
    let old = c.args.self.now in (
      appended marks w old.scope_start (inward [] old.far_starts.items) (inward [] old.groups.items) old.bytes.items c.args.bytes.now c.push_mark.new.bytes.items (presence_mark m) (sym is) c.in_ok-push_mark.ensures wrote.0,
      tells_of_mark w m old.has_records wrote.1,
    )
