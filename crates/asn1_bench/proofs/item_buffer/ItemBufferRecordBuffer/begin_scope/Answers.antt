use Rattle.std.proofs.lemmas.Result.{err_from_is_err_and}
use Rattle.asn1_bench.proofs.item_buffer.ItemBufferRecordBuffer.begin_scope.Goals as goal

pub returns-in_err-open_scope : goal.returns-in_err-open_scope
returns-in_err-open_scope g c =
    let p = err_from_is_err_and c.from_residual.result c.from_residual.ensures.1 in
    rw (p.1) (λ h kind tag. p.2.1 c.in_err-open_scope.ensures.memory)

pub returns : goal.returns
returns g c = λ h kind tag w wrote. c.in_ok-open_scope.ensures.opened g.P.Presence.mark_bytes h w kind tag wrote
