use Rattle.std.proofs.Common.{◌≡◌, ◌∙◌, ap, sym, arith, true≢false}
use Rattle.std.specs.Prelude.{IsNone, IsOk}
use Rattle.std.proofs.lemmas.Grind.{common_steps}
use Rattle.asn1_bounds.specs.Sets.{set_of_one, set_of_all}
use Rattle.asn1_bounds.proofs.SetLaws.{set_of_all-step, set_of_all-values, set_of_all-lengths, set_of_all-characters, set_of_one-without_alphabet, set_of_some-without_alphabet}
use Rattle.asn1_bounds.proofs.constraints.Constraints.new.Goals as goal

pub loop-constraint-preserved : goal.loop-constraint-preserved
loop-constraint-preserved c =
    set_of_all-step c.args.constraints.now c.loop-constraint.constraint-index _ c.loop-constraint.set c.of-one.result c.in_ok-set.set
    c.loop-constraint-test.true (c.of-one.ensures ∙ ap set_of_one (c.in_ok-try_clone.ensures.copy ∙ c.constraint-item.is)) c.in_ok-set.ensures.parts c.loop-constraint.invariant

pub returns-in_err-set-clause-without_alphabet : goal.returns-in_err-set-clause-without_alphabet
returns-in_err-set-clause-without_alphabet c = λ all.
    let set : IsNone c.loop-constraint.set.permitted_alphabet = rw c.loop-constraint.invariant (set_of_some-without_alphabet c.args.constraints.now c.loop-constraint.constraint-index all) in
    let one : IsNone c.of-one.result.permitted_alphabet = rw c.of-one.ensures (set_of_one-without_alphabet c.in_ok-try_clone.field-0 (rw (c.in_ok-try_clone.ensures.copy, c.constraint-item.is) (all c.loop-constraint.constraint-index _ c.loop-constraint-test.true))) in
    let succeeds : IsOk c.intersect.result = c.intersect.ensures.without_alphabet set one in
    absurd (true≢false (sym (c.in_err-set.ensures.without_alphabet set one)))

pub returns-clause-values : goal.returns-clause-values
returns-clause-values c =
    let parts : c.loop-constraint.set ≡ set_of_all c.args.constraints.now = grind (arith, common_steps) in
    λ n. rw parts (set_of_all-values c.args.constraints.now n)

pub returns-clause-lengths : goal.returns-clause-lengths
returns-clause-lengths c =
    let parts : c.loop-constraint.set ≡ set_of_all c.args.constraints.now = grind (arith, common_steps) in
    λ n. rw parts (set_of_all-lengths c.args.constraints.now n)

pub returns-clause-characters : goal.returns-clause-characters
returns-clause-characters c =
    let parts : c.loop-constraint.set ≡ set_of_all c.args.constraints.now = grind (arith, common_steps) in
    λ n. rw parts (set_of_all-characters c.args.constraints.now n)
