use Rattle.std.proofs.Common.{refl}
use Rattle.std.proofs.lemmas.Result.{err_from_is_err_and}
use Rattle.asn1_model.specs.Records.{group_start}
use Rattle.asn1_bench.proofs.item_buffer.ItemBufferRecordBuffer.begin_group.Goals as goal

pub returns-in_err-open_group : goal.returns-in_err-open_group
returns-in_err-open_group g c =
    let p = err_from_is_err_and c.from_residual.result c.from_residual.ensures.1 in
    rw (p.1) (λ table. p.2.1 c.in_err-open_group.ensures.memory)

pub returns : goal.returns
returns g c = λ table w wrote. c.in_ok-open_group.ensures.opened g.P.Presence.mark_bytes table w (c.bytes_of_mark.ensures (group_start table) refl) wrote
