use Rattle.std.proofs.Common.{◌≡◌, ◌∙◌, subst}
use Rattle.std.specs.List.{find, slice_get}
use Rattle.std.specs.Option.{option_and_then}
use Rattle.asn1_names.specs.Distinct.{has_same_name}
use Rattle.asn1_names.proofs.Found.{found_by, lent}
use Rattle.asn1_names.proofs.doubled.first_of_name.Goals as goal

pub returns-in_err-first : goal.returns-in_err-first
returns-in_err-first c = λ earlier later whole all.
    let found = found_by (has_same_name c.args.definition.now) earlier later c.args.defined.now c.position.result (c.position.ensures earlier whole) all in
    c.from_residual.ensures ∙ subst (λ o. option_and_then (slice_get c.args.defined.now) o ≡ find (has_same_name c.args.definition.now) earlier) c.in_err-first.was found

pub returns : goal.returns
returns c = λ earlier later whole all.
    let found = found_by (has_same_name c.args.definition.now) earlier later c.args.defined.now c.position.result (c.position.ensures earlier whole) all in
    let here = subst (λ o. option_and_then (slice_get c.args.defined.now) o ≡ find (has_same_name c.args.definition.now) earlier) c.in_ok-first.was found in
    c.copied.ensures ∙ (lent c.args.defined.now c.in_ok-first.first c.get.result c.get.ensures.lookup ∙ here)
