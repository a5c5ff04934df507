use Rattle.std.proofs.Common.{◌≡◌, Err, ap, arith, length-take}
use Rattle.std.proofs.lemmas.Result.{err_from_is_err_and}
use Rattle.asn1_report.specs.declared.error.CheckError.TheVariants.{Memory}
use Rattle.asn1_report.proofs.Reading.{read_but_end, read_in_part, read_more, read_none, read_nothing, read_to_end_if_ok}
use Rattle.asn1_report.proofs.input.read_to_end.Goals as goal
use Rattle.asn1_report.proofs.input.read_to_end.Goals.{in-Ok+in_ok-take-in-Ok, in-Err+else-ne}

pub loop-init : goal.loop-init
loop-init g c = read_nothing _ _ _ (c.in_ok-checker.ensures.begun _)

pub returns-in_err-take-in-Ok-clause-memory : goal.returns-in_err-take-in-Ok-clause-memory
returns-in_err-take-in-Ok-clause-memory g c =
    let p = err_from_is_err_and c.from_residual-in_err-take-in-Ok.result c.from_residual-in_err-take-in-Ok.ensures.1 in
    rw (p.1, p.2)
    (λ is_memory.
    let same : c.in_err-take-in-Ok.field-0.0 ≡ Memory = cc in
    read_in_part _ _ _ _ _ _ _ _ (let short = length-take c.in-Ok.count c.read.new.buf in let bound = c.in-Ok.ensures.bound in let room = c.requires.room in let same = c.loop.auto.buffer in omega arith) c.loop.invariant c.in-Ok.ensures.bytes.0 (c.in_err-take-in-Ok.ensures.memory (ap Err same)))

pub loop-preserved : goal.loop-preserved
loop-preserved g c =
    elim c.match-read.branch [
      | in-Ok+in_ok-take-in-Ok w ↦ rw (w.checker-is, w.writer-is) (read_more _ _ _ _ _ _ _ _ _ c.loop.invariant w.in-Ok.ensures.bytes.0 w.in_ok-take-in-Ok.ensures.taken)
      | in-Err+else-ne w ↦ rw (w.checker-is, w.writer-is) (read_none _ _ _ _ _ _ c.loop.invariant w.in-Err.ensures.bytes)
    ]

pub returns-in-Ok-eq0-clause-finished : goal.returns-in-Ok-eq0-clause-finished
returns-in-Ok-eq0-clause-finished g c =
    let bytes = c.in-Ok-eq0.ensures.bytes in
    let none : c.in-Ok-eq0.field-0 ≡ 0 = c.in-Ok-eq0.field-0-test in
    read_to_end_if_ok c.end_input.result _ _ _ _ _ _ _ _ _ c.loop.invariant bytes.0 none (bytes.1 none (omega arith)) c.end_input.ensures.ended

pub returns-in-Ok-eq0-clause-memory : goal.returns-in-Ok-eq0-clause-memory
returns-in-Ok-eq0-clause-memory g c = λ is_memory. read_but_end _ _ _ _ _ _ _ _ (let short = length-take c.in-Ok-eq0.field-0 c.read.new.buf in let none = c.in-Ok-eq0.field-0-test in omega arith) c.loop.invariant c.in-Ok-eq0.ensures.bytes.0 (c.end_input.ensures.memory is_memory)
