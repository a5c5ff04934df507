use Rattle.std.proofs.Common.{inl}
use Rattle.std.proofs.lemmas.Result.{err_from_is_err_and}
use Rattle.asn1_bench.proofs.UnlabelledContents.{looks_like}
use Rattle.asn1_bench.proofs.item_buffer.ItemBufferRecordBuffer.append_scalar.Goals as goal

pub returns-in_err-append_scalar : goal.returns-in_err-append_scalar
returns-in_err-append_scalar g c =
    let p = err_from_is_err_and c.from_residual.result c.from_residual.ensures.1 in
    rw (p.1) (λ k n x is other. inl (c.in_err-append_scalar.ensures.too_long g.P.Presence.mark_bytes k n x (looks_like x _ is) (λ memory. other (p.2.1 memory))))

pub returns : goal.returns
returns g c = λ k n x is w wrote. c.in_ok-append_scalar.ensures.written g.P.Presence.mark_bytes k n x w (looks_like x _ is) wrote
