use Rattle.std.proofs.Common.{[], append-nil, refl, subst, sym, arith}
use Rattle.std.proofs.Math.Logic.{∥∥₁_elim}
use Rattle.std.proofs.lemmas.Result.{err_from_is_err_and}
use Rattle.std.specs.Prelude.{MatchOption}
use Rattle.asn1_ber_items.specs.Ends.{EndsInside, IsAtEnd, Passes}
use Rattle.asn1_ber_items.proofs.Searching.{come_ahead, come_ends, come_inside, comes_further, dropped, longer}
use Rattle.asn1_ber_items.proofs.front_end.find_end.Goals as goal

pub returns-in_err-next-clause-came : goal.returns-in_err-next-clause-came
returns-in_err-next-clause-came c = λ were. ∥∥₁_elim were squash₁ (λ was. ∣ c.loop-next.invariant.came was ∣₁)

pub returns-clause-came : goal.returns-clause-came
returns-clause-came c = λ were. ∥∥₁_elim were squash₁ (λ was. ∣ c.loop-next.invariant.came was ∣₁)

pub returns-in_err-next-clause-found : goal.returns-in_err-next-clause-found
returns-in_err-next-clause-found c = λ were normal rest one.
    let i = c.loop-next.invariant in
    absurd (∥∥₁_elim were (λ x y. absurd x)
    (λ was. c.in_err-next.ensures.none (come_ahead c.loop-next.progress c.args.octets.now c.loop-next.ahead (i.came was) i.left i.levels (record { normal = normal; rest = rest; one = one }))))

pub returns-in_err-next-clause-missing : goal.returns-in_err-next-clause-missing
returns-in_err-next-clause-missing c = λ was.
    let i = c.loop-next.invariant in
    let p = err_from_is_err_and c.from_residual.result c.from_residual.ensures.1 in
    rw (p.1, p.2) (λ missing. come_inside c.loop-next.progress c.args.octets.now c.loop-next.ahead (i.came was) i.left i.levels (c.in_err-next.ensures.missing.0 missing))

pub returns-in_err-next-clause-cut : goal.returns-in_err-next-clause-cut
returns-in_err-next-clause-cut c = λ was ends.
    let i = c.loop-next.invariant in
    let p = err_from_is_err_and c.from_residual.result c.from_residual.ensures.1 in
    rw (p.1, p.2) (c.in_err-next.ensures.missing.1 (come_ends c.loop-next.progress c.args.octets.now c.loop-next.ahead (i.came was) i.left i.levels ends))

pub returns-clause-cut : goal.returns-clause-cut
returns-clause-cut c = λ was ends.
    let i = c.loop-next.invariant in
    let left = c.loop-next.ahead.left.now in
    let at_end = subst (λ o. MatchOption o (IsAtEnd c.loop-next.ahead) (Passes c.loop-next.ahead)) c.in_default-2.is c.in_ok-next.ensures in
    at_end [] (subst (EndsInside c.loop-next.ahead.levels) (sym (append-nil left)) (come_ends c.loop-next.progress c.args.octets.now c.loop-next.ahead (i.came was) i.left i.levels ends))

pub overflow_sub-progress : goal.overflow_sub-progress
overflow_sub-progress c =
    let i = c.loop-next.invariant in
    let s = subst (λ o. MatchOption o (IsAtEnd c.loop-next.ahead) (Passes c.loop-next.ahead)) c.in-Some-2.is c.in_ok-next.ensures in
    omega (arith, longer c.loop-next.progress c.args.octets.now c.loop-next.ahead c.in-Some-2.next i.within i.left s)

pub invariant_of-progress : goal.invariant_of-progress
invariant_of-progress c =
    let i = c.loop-next.invariant in
    let s = subst (λ o. MatchOption o (IsAtEnd c.loop-next.ahead) (Passes c.loop-next.ahead)) c.in-Some-2.is c.in_ok-next.ensures in
    record { begun = omega (arith, longer c.loop-next.progress c.args.octets.now c.loop-next.ahead c.in-Some-2.next i.within i.left s, s.some, s.few, i.levels, c.loop-next.progress.begun) }

pub loop-next-preserved : goal.loop-next-preserved
loop-next-preserved c =
    let i = c.loop-next.invariant in
    let octets = c.args.octets.now in
    let s = subst (λ o. MatchOption o (IsAtEnd c.loop-next.ahead) (Passes c.loop-next.ahead)) c.in-Some-2.is c.in_ok-next.ensures in
    record {
      within = omega (arith, longer c.loop-next.progress octets c.loop-next.ahead c.in-Some-2.next i.within i.left s);
      left = dropped c.loop-next.progress octets c.loop-next.ahead c.in-Some-2.next i.within i.left s;
      levels = refl;
      came = λ was. comes_further c.loop-next.progress octets c.loop-next.ahead c.in-Some-2.next i.within i.left s _ refl refl i.levels (i.came was);
    }
