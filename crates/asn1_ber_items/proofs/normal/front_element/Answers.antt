use Rattle.std.proofs.Common.{refl, sym, subst, ◌∙◌}
use Rattle.std.proofs.lemmas.Result.{err_from_is_err_and}
use Rattle.asn1_ber_items.specs.Segments.{written_in}
use Rattle.asn1_ber_items.specs.Spellings.{SpellsOne}
use Rattle.asn1_ber_items.specs.Walks.{Comes, Remains, of_first}
use Rattle.asn1_ber_items.proofs.Steps.{only_memory}
use Rattle.asn1_ber_items.proofs.Walking.{front_there, front_was}
use Rattle.asn1_ber_items.proofs.normal.front_element.Goals as goal

pub loop-walk-init : goal.loop-walk-init
loop-walk-init c = record {
  consistent = c.new-walk.ensures.consistent;
  ahead = λ normal rest spells. c.new-walk.ensures.ahead (of_first normal rest) spells;
  behind = λ normal rest writes. c.new-walk.ensures.behind (of_first normal rest) writes;
}

pub loop-walk-preserved : goal.loop-walk-preserved
loop-walk-preserved c =
    let i = c.loop-walk.invariant in
    let s = c.in_ok-step.ensures i.consistent in
    record {
      consistent = s.consistent;
      ahead = λ normal rest spells. s.ahead (of_first normal rest) (λ over. (let wrong = (c.loop-walk-test.ensures i.consistent).1 over in cc)) (i.ahead normal rest spells);
      behind = λ normal rest writes. i.behind normal rest (s.behind (of_first normal rest) (λ over. (let wrong = (c.loop-walk-test.ensures i.consistent).1 over in cc)) writes);
    }

pub returns-in_err-step-clause-found : goal.returns-in_err-step-clause-found
returns-in_err-step-clause-found c = λ normal rest spells.
    let p = err_from_is_err_and c.from_residual-in_err-step.result c.from_residual-in_err-step.ensures.1 in
    let i = c.loop-walk.invariant in
    let stuck = c.in_err-step.ensures i.consistent in
    rw (p.1, p.2) (only_memory c.in_err-step.field-0.0 (λ some. stuck.stuck some (of_first normal rest) (λ over. (let wrong = (c.loop-walk-test.ensures i.consistent).1 over in cc)) (i.ahead normal rest spells)))

pub returns-clause-found : goal.returns-clause-found
returns-clause-found c = λ normal rest spells.
    let walk = c.loop-walk.walk in
    let none = (c.loop-walk-test.ensures c.loop-walk.invariant.consistent).0 refl in
    let w = front_was normal rest walk.left.now (written_in walk.written) none.1
    (subst (λ es. Comes es (Remains (of_first normal rest)) walk.left.now (written_in walk.written)) none.0 (c.loop-walk.invariant.ahead normal rest spells)) in
    (c.in_ok-normal.ensures ∙ sym w.0, sym w.1)

pub returns-clause-only : goal.returns-clause-only
returns-clause-only c =
    let walk = c.loop-walk.walk in
    let none = (c.loop-walk-test.ensures c.loop-walk.invariant.consistent).0 refl in
    let written = written_in walk.written in
    subst (λ l. SpellsOne c.args.bytes.now l walk.left.now) (sym c.in_ok-normal.ensures)
    (c.loop-walk.invariant.behind written walk.left.now
    (subst (λ es. Comes es (Remains (of_first written walk.left.now)) walk.left.now written) (sym none.0) (front_there written walk.left.now walk.left.now written none.1 refl refl)))
