use Rattle.std.proofs.lemmas.Result.{err_from_is_err_and}
use Rattle.asn1_report.proofs.Taking.{Keeps-refl, all_taken, line_taken, no_feed_at_all, on_ok, some_taken}
use Rattle.asn1_report.proofs.checker.Checker.take.Goals as goal

pub returns-in_err-extend_line-clause-memory : goal.returns-in_err-extend_line-clause-memory
returns-in_err-extend_line-clause-memory g c = λ is_memory. some_taken _ _ _ _ _ _ _ c.loop-end.invariant (Keeps-refl _)

pub returns-in_err-end_line-clause-memory : goal.returns-in_err-end_line-clause-memory
returns-in_err-end_line-clause-memory g c =
    let p = err_from_is_err_and c.from_residual-in_err-end_line.result c.from_residual-in_err-end_line.ensures.1 in
    rw (p.1, p.2) (λ is_memory. some_taken _ _ _ _ _ _ _ c.loop-end.invariant (c.in_err-end_line.ensures.memory is_memory))

pub loop-end-preserved : goal.loop-end-preserved
loop-end-preserved g c =
    line_taken _ _ _ _ _ _ _ _ _ c.in-Some.end c.loop-end.invariant (rw c.in-Some.is at c.memchr.ensures) (c.in_ok-extend_line.ensures.taken _) c.in_ok-end_line.ensures.taken

pub extend_line-requires-2 : goal.extend_line-requires-2
extend_line-requires-2 g c = record { no_feed = no_feed_at_all c.loop-end.rest.now (rw c.in_default.is at c.memchr.ensures) }

pub returns-clause-taken : goal.returns-clause-taken
returns-clause-taken g c = on_ok c.flush.result (all_taken _ _ _ _ _ _ _ _ c.loop-end.invariant (c.in_ok-extend_line-2.ensures.taken _) c.flush.ensures.kept)
