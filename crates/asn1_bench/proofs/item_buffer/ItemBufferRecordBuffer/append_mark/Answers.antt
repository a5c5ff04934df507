use Rattle.std.proofs.lemmas.Result.{err_from_is_err_and}
use Rattle.asn1_bench.proofs.item_buffer.ItemBufferRecordBuffer.append_mark.Goals as goal

pub returns-in_err-append_mark : goal.returns-in_err-append_mark
returns-in_err-append_mark g c =
    let p = err_from_is_err_and c.from_residual.result c.from_residual.ensures.1 in
    rw (p.1) (λ m is other. absurd (other (p.2.1 c.in_err-append_mark.ensures.memory)))

pub returns : goal.returns
returns g c = λ m is w wrote. c.in_ok-append_mark.ensures.written g.P.Presence.mark_bytes m w (c.bytes_of_mark.ensures m is) wrote
