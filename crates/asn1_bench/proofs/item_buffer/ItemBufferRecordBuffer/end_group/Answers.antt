use Rattle.std.proofs.Common.{refl}
use Rattle.std.proofs.lemmas.Result.{err_from_is_err_and}
use Rattle.asn1_model.specs.Records.{group_absent, group_end}
use Rattle.asn1_bench.proofs.item_buffer.ItemBufferRecordBuffer.end_group.Goals as goal

pub returns-in_err-close_group : goal.returns-in_err-close_group
returns-in_err-close_group g c =
    let p = err_from_is_err_and c.from_residual.result c.from_residual.ensures.1 in
    rw (p.1) (λ table rs w wrote. p.2.1 (c.in_err-close_group.ensures.closed g.P.Presence.mark_bytes table rs w (c.bytes_of_mark-end.ensures group_end refl) (c.bytes_of_mark-absent.ensures (group_absent table) refl) wrote))

pub returns : goal.returns
returns g c = λ table rs w wrote. c.in_ok-close_group.ensures.closed g.P.Presence.mark_bytes table rs w (c.bytes_of_mark-end.ensures group_end refl) (c.bytes_of_mark-absent.ensures (group_absent table) refl) wrote
