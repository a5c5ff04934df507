use Rattle.std.proofs.Common.{◌≡◌, ap, get_or, length, arith}
use borrow.Author.Tests.{ltb-true}
use Rattle.asn1_report.proofs.TreeReading.{choice_read, first_byte, read_last, read_no_end, read_no_tree, read_nothing, read_one}
use Rattle.asn1_report.proofs.tree.+tree.Goals as goal
use Rattle.asn1_report.proofs.tree.+tree.Goals.{read_choice-then-inside-lt1, read_choice-else-inside-lt1+in_default-1, read_choice-in_default-left-via-then-left-lt1, read_choice-in_default-left-via-else-left-lt1+in_default-1}

pub read_choice-loop-left-init : goal.read_choice-loop-left-init
read_choice-loop-left-init t c =
    read_nothing _ _ _
    (λ left same.
    elim c.if-inside-lt1.branch [
      | read_choice-then-inside-lt1 w ↦ omega (arith, ltb-true, ap length same)
      | read_choice-else-inside-lt1+in_default-1 w ↦ omega (arith, ap (λ bytes. get_or bytes 0 0) same)
    ])

pub read_choice-loop-left-preserved : goal.read_choice-loop-left-preserved
read_choice-loop-left-preserved t c =
    let space : get_or c.in-Some.left.now 0 0 ≡ 32 = omega arith in
    read_one _ _ _ _ _ _ _ _ c.loop-left.invariant (first_byte c.in-Some.left.now 32 c.in-32.len_at_least space) (rw c.in-Some.is at c.in_ok-left.ensures.read)

pub read_choice-returns-in-41-left : goal.read_choice-returns-in-41-left
read_choice-returns-in-41-left t c =
    let bracket : get_or c.in-Some.left.now 0 0 ≡ 41 = omega arith in
    record { read = read_last _ _ _ _ _ _ _ _ c.loop-left.invariant (first_byte c.in-Some.left.now 41 c.in-41-left.len_at_least bracket) (rw c.in-Some.is at c.in_ok-left.ensures.read) }

pub read_choice-returns-in_default-left : goal.read_choice-returns-in_default-left
read_choice-returns-in_default-left t c = record {
  read =
      read_no_end _ _ _ _ _ _ _ c.loop-left.invariant (rw c.in-Some.is at c.in_ok-left.ensures.read)
      (λ next same.
      elim c.in_default-left.branch [
        | read_choice-in_default-left-via-then-left-lt1 w ↦ omega (arith, ltb-true, ap length same)
        | read_choice-in_default-left-via-else-left-lt1+in_default-1 w ↦ omega (arith, ap (λ bytes. get_or bytes 0 0) same)
      ])
      (λ next same.
      elim c.in_default-left.branch [
        | read_choice-in_default-left-via-then-left-lt1 w ↦ omega (arith, ltb-true, ap length same)
        | read_choice-in_default-left-via-else-left-lt1+in_default-1 w ↦ omega (arith, ap (λ bytes. get_or bytes 0 0) same)
      ]);
}

pub read_choice-returns : goal.read_choice-returns
read_choice-returns t c = record { read = read_no_tree _ _ _ _ _ c.loop-left.invariant (rw c.in_default-2.is at c.in_ok-left.ensures.read) }

pub read_tree-returns-in-Some : goal.read_tree-returns-in-Some
read_tree-returns-in-Some t c =
    let bracket : get_or c.args.text.now 0 0 ≡ 40 = omega arith in
    let has_some = c.in-Some.ensures in
    record {
      read =
          choice_read c.read_choice.result (λ left. left.now) c.args.depth c.in-Some.depth c.args.text.now _ _ _ (omega (arith, has_some.0, has_some.1))
          (first_byte c.args.text.now 40 c.in-40.len_at_least bracket) c.read_choice.ensures.read;
    }
