use Rattle.std.proofs.Common.{inl}
use Rattle.std.proofs.lemmas.Result.{err_from_is_err_and}
use Rattle.asn1_model.specs.Orders.{equal}
use Rattle.asn1_model.specs.Records.{holding}
use Rattle.asn1_bench.proofs.item_buffer.ItemBufferRecordBuffer.end_scope.Goals as goal

pub returns-in_err-close_scope-clause-ended : goal.returns-in_err-close_scope-clause-ended
returns-in_err-close_scope-clause-ended g c =
    let p = err_from_is_err_and c.from_residual.result c.from_residual.ensures.1 in
    rw (p.1) (λ h rs w wrote other. inl (c.in_err-close_scope.ensures.closed g.P.Presence.mark_bytes h rs w wrote).1)

pub returns-clause-ended : goal.returns-clause-ended
returns-clause-ended g c = λ h rs w wrote. record { closed = holding h rs; same = equal (holding h rs); wrote = c.in_ok-close_scope.ensures.closed g.P.Presence.mark_bytes h rs w wrote }

pub returns-clause-in_order : goal.returns-clause-in_order
returns-clause-in_order g c = λ h rs w wrote. c.in_ok-close_scope.ensures.closed g.P.Presence.mark_bytes h rs w wrote
