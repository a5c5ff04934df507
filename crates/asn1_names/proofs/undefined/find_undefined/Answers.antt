use Rattle.std.proofs.Common.{◌≡◌, ◌↔◌, [], subst, sym, ap, ◌∙◌, not}
use Rattle.std.specs.List.{All, filter}
use Rattle.std.proofs.lemmas.List.{take_all}
use Rattle.asn1_names.specs.Index.{IsIndexOf}
use Rattle.asn1_names.specs.References.{IsResolved, is_undefined}
use Rattle.asn1_names.proofs.Searches.{filter_put, filter_left}
use Rattle.asn1_names.proofs.Resolved.{none_undefined}
use Rattle.asn1_names.proofs.undefined.find_undefined.Goals as goal
use Rattle.asn1_names.proofs.undefined.find_undefined.Goals.{then-not-is_resolved+in_ok-push, else-not-is_resolved}

pub returns-clause-resolved : goal.returns-clause-resolved
returns-clause-resolved c =
    let found = c.loop-reference.invariant ∙ ap (filter (is_undefined c.args.defined.now c.args.imported.now)) (take_all _ _ c.loop-reference-test.false) in
    subst (λ items. (items ≡ []) ↔ All (IsResolved c.args.defined.now c.args.imported.now) c.args.used.now) (sym found)
    (none_undefined c.args.defined.now c.args.imported.now c.args.used.now)

pub loop-reference-preserved : goal.loop-reference-preserved
loop-reference-preserved c =
    let names = c.as_slice.ensures.value ∙ c.in_ok-names.ensures c.args.defined.now c.in_ok-index.ensures in
    let more = subst (λ l. IsIndexOf l c.in_ok-brought_in.brought_in) names c.in_ok-brought_in.ensures in
    let is = c.is_resolved.ensures c.args.defined.now c.args.imported.now c.in_ok-index.ensures more in
    elim c.if-not-is_resolved.branch [
      | then-not-is_resolved+in_ok-push w ↦ filter_put (is_undefined c.args.defined.now c.args.imported.now) c.args.used.now c.loop-reference.reference-index _ c.loop-reference.found.items _ c.loop-reference-test.true (ap not (sym is ∙ w.if-not-is_resolved.true)) c.loop-reference.invariant (ap (λ v. v.items) w.found-is ∙ w.in_ok-push.ensures.items)
      | else-not-is_resolved w ↦ filter_left (is_undefined c.args.defined.now c.args.imported.now) c.args.used.now c.loop-reference.reference-index _ c.loop-reference.found.items _ c.loop-reference-test.true (ap not (sym is ∙ w.if-not-is_resolved.false)) c.loop-reference.invariant (ap (λ v. v.items) w.found-is)
    ]
