use Rattle.std.proofs.Common.{[], refl}
use Rattle.asn1_model.specs.Records.{scalar}
use Rattle.asn1_items.specs.Buffers.{inward}
use Rattle.asn1_items.specs.Contents.{content_of}
use Rattle.asn1_items.proofs.Writing.{scalar_written, tells_of_record}
use Rattle.asn1_items.proofs.buffer.Buffer.append_scalar.Goals as goal

pub returns-clause-written : goal.returns-clause-written
returns-clause-written c = λ marks k n x w like wrote.
    let old = c.args.self.now in (
      scalar_written marks (content_of c.args.content) x c.args.tag k n old.bytes.items _ like c.in_default.ensures.appended old.scope_start (inward [] old.far_starts.items) (inward [] old.groups.items) w wrote.0,
      tells_of_record w (scalar c.args.tag k n x) refl,
    )
