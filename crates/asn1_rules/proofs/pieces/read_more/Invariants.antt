use Rattle.std.proofs.Common.{◌≡◌, ℕ, ◌≤◌, ◌-◌, ◌++◌, List, length}
use Rattle.asn1_rules.specs.Fronts.{IsSteady}
use Rattle.asn1_rules.specs.Iters.{state}
use Rattle.asn1_rules.specs.UnreadBytes.{AddsRead, Remains}
use Rattle.asn1_rules.proofs.pieces.read_more.Given as goal

abbrev pub invariant-loop-iter : goal.invariant-loop-iter
invariant-loop-iter g l =
    let F = g.R.FrontReader.fronts in
    let old = state l.initial.iter in
    record {
      same_reader : (state l.iter).reader ≡ old.reader;
      at_most : length l.values.items ≤ l.n;
      remains : (vs : List _) (behind : List ℕ) → IsSteady F old.reader →
          Remains F old.reader l.initial.values.items vs (old.unread ++ behind) →
          Remains F old.reader l.values.items vs ((state l.iter).unread ++ behind);
      read : AddsRead F old (state l.iter) l.initial.values.items l.values.items;
    }

abbrev pub decreases-loop-iter : goal.decreases-loop-iter
decreases-loop-iter g l = l.n - length l.values.items
