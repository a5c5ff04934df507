use Rattle.std.proofs.Common.{◌≡◌, ℕ, true, false, List, [], append-nil, length, refl, sym, subst, ◌∙◌}
use Rattle.std.specs.Prelude.{◌==◌}
use Rattle.std.proofs.lemmas.Result.{err_from_is_err_and}
use Rattle.asn1_ber_items.specs.Segments.{written_in}
use Rattle.asn1_ber_items.specs.Spellings.{Spells, nothing}
use Rattle.asn1_ber_items.specs.Walks.{Comes, Remains, of_all}
use Rattle.asn1_ber_items.proofs.NormalForms.{first_there}
use Rattle.asn1_ber_items.proofs.Steps.{only_memory}
use Rattle.asn1_ber_items.proofs.Walking.{at_end}
use Rattle.asn1_ber_items.proofs.normal.normal_form.Goals as goal

-- where there are bytes, the first element is there
pub returns-in_err-find_end-clause-found : goal.returns-in_err-find_end-clause-found
returns-in_err-find_end-clause-found c = λ normal spells.
    let first = first_there c.args.bytes.now normal [] spells (λ none. (let wrong : false ≡ true = subst (λ (l : List ℕ). false ≡ (length l == 0)) none c.if-not-is_empty.ensures in cc)) in
    let wrong = c.in_err-find_end.ensures.found ∣ c.new.ensures c.args.bytes.now ∣₁ first.normal first.rest first.one in cc

pub loop-walk-init : goal.loop-walk-init
loop-walk-init c = record {
  consistent = c.new-walk.ensures.consistent;
  ahead = λ normal spells. c.new-walk.ensures.ahead (of_all normal) (record { others = normal; spell = spells; are = refl });
  behind = λ normal writes.
      let l = c.new-walk.ensures.behind (of_all normal) writes in
      subst (λ x. Spells c.args.bytes.now x []) (sym l.are) l.spell;
}

pub loop-walk-preserved : goal.loop-walk-preserved
loop-walk-preserved c =
    let i = c.loop-walk.invariant in
    let s = c.in_ok-step.ensures i.consistent in
    let walk = c.loop-walk.walk in
    record {
      consistent = s.consistent;
      ahead = λ normal spells. s.ahead (of_all normal) (λ over. (let wrong = c.loop-walk-test.ensures.1 over in cc)) (i.ahead normal spells);
      behind = λ normal writes. i.behind normal (s.behind (of_all normal) (λ over. (let wrong = c.loop-walk-test.ensures.1 over in cc)) writes);
    }

pub returns-in_err-step-clause-whole_front : goal.returns-in_err-step-clause-whole_front
returns-in_err-step-clause-whole_front c = λ normal rest spells.
    let p = err_from_is_err_and c.from_residual-in_err-step.result c.from_residual-in_err-step.ensures.1 in
    rw (p.1, p.2) (c.in_err-step.ensures c.loop-walk.invariant.consistent).not_missing

pub returns-in_err-step-clause-missing : goal.returns-in_err-step-clause-missing
returns-in_err-step-clause-missing c =
    let p = err_from_is_err_and c.from_residual-in_err-step.result c.from_residual-in_err-step.ensures.1 in
    rw (p.1, p.2) (λ missing. absurd ((c.in_err-step.ensures c.loop-walk.invariant.consistent).not_missing missing))

pub returns-clause-found : goal.returns-clause-found
returns-clause-found c = λ normal spells.
    let walk = c.loop-walk.walk in
    let none = c.loop-walk-test.ensures.0 refl in
    c.in_ok-normal.ensures ∙ sym (at_end normal walk.left.now (written_in walk.written) none.1 (subst (λ es. Comes es (Remains (of_all normal)) walk.left.now (written_in walk.written)) none.0 (c.loop-walk.invariant.ahead normal spells)))

pub returns-clause-only : goal.returns-clause-only
returns-clause-only c =
    let walk = c.loop-walk.walk in
    let written = written_in walk.written in
    let none = c.loop-walk-test.ensures.0 refl in
    subst (λ l. Spells c.args.bytes.now l []) (sym c.in_ok-normal.ensures)
    (c.loop-walk.invariant.behind written
    (subst (λ es. Comes es (Remains (of_all written)) walk.left.now written) (sym none.0)
    (record { others = []; spell = subst (λ l. Spells l [] []) (sym none.1) (nothing []); are = sym (append-nil written) })))

pub returns-in_err-step-clause-found : goal.returns-in_err-step-clause-found
returns-in_err-step-clause-found c = λ normal spells.
    let p = err_from_is_err_and c.from_residual-in_err-step.result c.from_residual-in_err-step.ensures.1 in
    let i = c.loop-walk.invariant in
    let stuck = c.in_err-step.ensures i.consistent in
    rw (p.1, p.2) (only_memory c.in_err-step.field-0.0 (λ some. stuck.stuck some (of_all normal) (λ over. (let wrong = c.loop-walk-test.ensures.1 over in cc)) (i.ahead normal spells)))
