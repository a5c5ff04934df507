use Rattle.std.proofs.Common.{◌≡◌, ◌∙◌, [], ◌∷◌, ap, arith, length, length-append}
use Rattle.std.specs.Prelude.{Ok, Some}
use Rattle.asn1_rules.specs.Iters.{state}
use Rattle.asn1_rules.specs.Progress.{Took}
use Rattle.asn1_rules.proofs.Steps.{one_more_read, remains_behind, took}
use Rattle.asn1_rules.proofs.pieces.read_more.Goals as goal

pub loop-iter-preserved : goal.loop-iter-preserved
loop-iter-preserved g c =
    let F = g.R.FrontReader.fronts in
    let old = state c.loop-iter.iter in
    let new = state c.next.new.self in
    let value = c.in-Some-Ok.value in
    let is : Some c.in-Some-Ok.field-0 ≡ Some (Ok value) = cc in
    let t : Took F old new value = took F old new (Some c.in-Some-Ok.field-0) value is c.in-Some-Ok.ensures.steps in
    record {
      same_reader = t.taken.same_reader ∙ c.loop-iter.invariant.same_reader;
      at_most = omega (arith, ap length c.in-Ok.ensures.items, length-append c.loop-iter.values.items (value ∷ []));
      remains = λ vs behind steady before.
          rw c.in-Ok.ensures.items
          (remains_behind F old new g.met.R.FrontReader.lawful _ _ vs value behind c.loop-iter.invariant.same_reader steady t
          (c.loop-iter.invariant.remains vs behind steady before));
      read = one_more_read F old new _ _ _ _ value c.in-Ok.ensures.items c.loop-iter.invariant.same_reader t c.loop-iter.invariant.read;
    }
