use Rattle.std.proofs.Common.{◌≡◌, ◌↔◌, [], subst, sym, take, drop, arith}
use Rattle.std.proofs.lemmas.Grind.{common_steps, take_at_read}
use Rattle.std.proofs.lemmas.List.{take-append-drop}
use Rattle.asn1_names.specs.Index.{IsIndexOf}
use Rattle.std.specs.List.{AllPairs}
use Rattle.asn1_names.specs.Distinct.{IsDistinct}
use Rattle.asn1_names.proofs.NamedTwice.{distinct, finished}
use Rattle.asn1_names.proofs.doubled.find_doubled.Goals as goal

pub returns-clause-distinct : goal.returns-clause-distinct
returns-clause-distinct c =
    let found = finished _ _ _ c.loop-index.invariant.so_far c.loop-index-test.false in
    subst (λ items. (items ≡ []) ↔ AllPairs IsDistinct c.args.defined.now) (sym found) (distinct c.args.defined.now)

pub loop-index-preserved : goal.loop-index-preserved
loop-index-preserved c =
    let i = c.loop-index.index in
    let here = take_at_read c.args.defined.now i _ c.loop-index-test.true in
    record {
      so_far =
          let is = c.first_of_name.ensures (take i c.args.defined.now) (drop i c.args.defined.now) c.loop-index.invariant.names (sym (take-append-drop i c.args.defined.now)) in
          grind (arith, common_steps, is);
      names =
          let more = c.in_ok-add.ensures (take i c.args.defined.now) (grind (arith, common_steps)) c.loop-index.invariant.names in
          subst (λ names. IsIndexOf names c.add.new.self) (sym here.1) more;
    }
