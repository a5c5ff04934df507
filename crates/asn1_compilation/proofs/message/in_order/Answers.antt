use Rattle.std.proofs.Common.{rules, ◌≤◌, length, map, subst, ◌∙◌, arith}
use Rattle.std.specs.Borrow.{Bor}
use Rattle.std.specs.List.Sorted.{IsPermutation}
use Rattle.std.proofs.lemmas.List.{take_all}
use Rattle.std.proofs.lemmas.List.Sorted.{IsPermutation-map, answers_always}
use Rattle.asn1_resolved.specs.declared.problem.Problem.{Problem}
use Rattle.asn1_compilation.specs.Messages.{is_before}
use Rattle.asn1_compilation.proofs.Told.{sorted_map}
use Rattle.asn1_compilation.proofs.message.in_order.Goals as goal

pub returns-clause-permutation : goal.returns-clause-permutation
returns-clause-permutation c =
    let all : length c.args.problems.now ≤ c.loop-problem.problem-index = omega arith in
    subst (λ problems. IsPermutation problems (map (λ (problem : Bor Problem). problem.now) c.sort_by_key.new.self.items))
    (c.loop-problem.invariant ∙ take_all c.loop-problem.problem-index c.args.problems.now all)
    (IsPermutation-map (λ (problem : Bor Problem). problem.now) c.loop-problem.order.items c.sort_by_key.new.self.items c.sort_by_key.ensures.permutation)

pub returns-clause-ascending : goal.returns-clause-ascending
returns-clause-ascending c = sorted_map (λ (problem : Bor Problem). problem.now) is_before c.sort_by_key.new.self.items
    (c.in_ok-sort_by_key.ensures.sorted (λ problem. (problem.now.place.text, problem.now.place.span.start)) (answers_always _ _ _ (λ f a r q called. search rules)))
