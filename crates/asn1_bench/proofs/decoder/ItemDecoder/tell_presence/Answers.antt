use Rattle.std.proofs.Common.{Ok, Err}
use Rattle.asn1_laws.proofs.ReadingUpToOrder.{tells_presence}
use Rattle.asn1_model.specs.Records.{present, absent}
use Rattle.asn1_model.specs.Tags.{tree_tags}
use Rattle.asn1_bench.proofs.ReadItems.{either_taken}
use Rattle.asn1_bench.proofs.RemainingItems.{found, not_found}
use Rattle.asn1_bench.specs.Decoder.{in_one_order}
use Rattle.asn1_tags.specs.Trees.{shape}
use Rattle.asn1_bench.proofs.decoder.ItemDecoder.tell_presence.Goals as goal

pub returns-in-Ok-clause-read : goal.returns-in-Ok-clause-read
returns-in-Ok-clause-read g c = λ side t.
    let marks = g.P.Presence.mark_bytes in
    let own = tree_tags (shape c.args.tree) in
    tells_presence (in_one_order marks) c.args.self.now _ (present side t) (absent side t) own (Ok c.in-Ok.is_there)
    (found marks c.args.self.now _ (present side t) (absent side t) own c.in-Ok.is_there c.if-state.false c.in-Ok.ensures.keeps_outside (c.in-Ok.ensures.found side t))

pub returns-in-Err-clause-read : goal.returns-in-Err-clause-read
returns-in-Err-clause-read g c = λ side t.
    let marks = g.P.Presence.mark_bytes in
    let own = tree_tags (shape c.args.tree) in
    tells_presence (in_one_order marks) c.args.self.now _ (present side t) (absent side t) own (Err c.fail_with.result)
    (not_found marks c.args.self.now _ (present side t) (absent side t) own _ c.in-Err.error c.fail_with.result (c.in-Err.ensures.found side t))

pub returns-in-Ok-clause-only : goal.returns-in-Ok-clause-only
returns-in-Ok-clause-only g c = λ side t.
    either_taken g.P.Presence.mark_bytes c.args.self.now _ c.if-state.false (present side t) (absent side t) c.in-Ok.is_there c.in-Ok.ensures.keeps_outside (c.in-Ok.ensures.only side t)
