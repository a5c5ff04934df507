use Rattle.std.proofs.Common.{◌≡◌, ◌+◌, Some, None, arith, length, subst, sym, ◌∙◌}
use Rattle.asn1_fields.specs.DistinctTags.{sequence_clash, set_clash}
use Rattle.asn1_fields.proofs.ClashSearches.{shifted}
use Rattle.asn1_clash.specs.Views.{components_view}
use Rattle.asn1_clash.proofs.Flat.{found_in_sequence}
use Rattle.asn1_clash.proofs.Runs.{run_fits, run_is_some, found_in_run, none_in_run, clash_within, some_length, none_left, no_length}
use Rattle.asn1_clash.proofs.search.find_sequence_clash.Goals as goal

pub split_at-requires : goal.split_at-requires
split_at-requires c = let n = c.run_length.ensures in let le = run_fits c.loop-rest.rest.now in omega arith

pub overflow_add-result : goal.overflow_add-result
overflow_add-result c =
    let found : Some (c.in-Some.i, c.in-Some.j) ≡ set_clash (components_view c.split_at.result.0.now) = rw c.in-Some.is at c.in_ok-i.ensures.report in
    let within = clash_within c.split_at.result.0.now c.in-Some.i c.in-Some.j found in
    let some = within.0 in
    omega arith

pub overflow_add-result-in-Some : goal.overflow_add-result-in-Some
overflow_add-result-in-Some c =
    let found : Some (c.in-Some.i, c.in-Some.j) ≡ set_clash (components_view c.split_at.result.0.now) = rw c.in-Some.is at c.in_ok-i.ensures.report in
    let within = clash_within c.split_at.result.0.now c.in-Some.i c.in-Some.j found in
    let some = within.1 in
    omega arith

pub returns-in-Some : goal.returns-in-Some
returns-in-Some c =
    let found : Some (c.in-Some.i, c.in-Some.j) ≡ set_clash (components_view c.split_at.result.0.now) = rw c.in-Some.is at c.in_ok-i.ensures.report in
    let whole =
    found_in_run c.args.components.now c.loop-rest.rest.now c.loop-rest.start c.run_length.result c.in-Some.i c.in-Some.j c.loop-rest.invariant.whole c.run_length.ensures
    (subst (λ run. Some (c.in-Some.i, c.in-Some.j) ≡ set_clash (components_view run)) c.split_at.ensures.front found) in
    let all = found_in_sequence (components_view c.args.components.now) (Some (c.loop-rest.start + c.in-Some.i, c.loop-rest.start + c.in-Some.j)) whole in
    record { report = all.report; least = all.least; report_of_table = all.report_of_table; least_of_table = all.least_of_table }

pub returns : goal.returns
returns c =
    let whole = none_left c.args.components.now c.loop-rest.rest.now c.loop-rest.start c.loop-rest.invariant.whole (no_length _ c.loop-rest-test.ensures) in
    let all = found_in_sequence (components_view c.args.components.now) None whole in
    record { report = all.report; least = all.least; report_of_table = all.report_of_table; least_of_table = all.least_of_table }

pub loop-rest-smaller : goal.loop-rest-smaller
loop-rest-smaller c =
    let some = run_is_some c.loop-rest.rest.now (some_length (length c.loop-rest.rest.now) c.loop-rest-test.ensures) in
    let n = c.run_length.ensures in
    let back = c.split_at.ensures.back_len in
    omega arith

pub loop-rest-preserved : goal.loop-rest-preserved
loop-rest-preserved c =
    let nothing : None ≡ set_clash (components_view c.split_at.result.0.now) = rw c.in_default.is at c.in_ok-i.ensures.report in
    let further =
    none_in_run c.args.components.now c.loop-rest.rest.now c.loop-rest.start c.run_length.result c.loop-rest.invariant.whole c.run_length.ensures
    (subst (λ run. None ≡ set_clash (components_view run)) c.split_at.ensures.front nothing) in
    let front = c.split_at.ensures.front_len in
    let back = c.split_at.ensures.back_len in
    let fits = c.loop-rest.invariant.fits in
    record {
      whole = further ∙ λ i. shifted (c.loop-rest.start + sym front i) (sequence_clash (components_view (sym c.split_at.ensures.back i)));
      fits = omega arith;
    }
