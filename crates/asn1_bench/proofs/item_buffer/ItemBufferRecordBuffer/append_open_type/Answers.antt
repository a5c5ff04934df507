use Rattle.std.proofs.lemmas.Result.{err_from_is_err_and}
use Rattle.asn1_bench.proofs.item_buffer.ItemBufferRecordBuffer.append_open_type.Goals as goal

pub returns-in_err-append_open_type : goal.returns-in_err-append_open_type
returns-in_err-append_open_type g c =
    let p = err_from_is_err_and c.from_residual.result c.from_residual.ensures.1 in
    rw (p.1) (λ n other. absurd (other (p.2.1 c.in_err-append_open_type.ensures.memory)))

pub returns : goal.returns
returns g c = λ n w wrote. c.in_ok-append_open_type.ensures.written g.P.Presence.mark_bytes n w wrote
