use Rattle.std.proofs.Common.{◌≡◌, ◌↔◌, [], subst, sym, ap, ◌∙◌, not}
use Rattle.std.specs.List.{All, filter}
use Rattle.std.proofs.lemmas.List.{take_all}
use Rattle.asn1_names.specs.Imports.{IsKnown, is_unknown}
use Rattle.asn1_names.proofs.Searches.{filter_put, filter_left}
use Rattle.asn1_names.proofs.Resolved.{none_unknown}
use Rattle.asn1_names.proofs.imports.find_unknown_imports.Goals as goal
use Rattle.asn1_names.proofs.imports.find_unknown_imports.Goals.{then-not-is_defined+in_ok-push, else-not-is_defined}

pub returns-clause-known : goal.returns-clause-known
returns-clause-known c =
    let found = c.loop-import.invariant ∙ ap (filter (is_unknown c.args.defined.now)) (take_all _ _ c.loop-import-test.false) in
    subst (λ items. (items ≡ []) ↔ All (IsKnown c.args.defined.now) c.args.imported.now) (sym found)
    (none_unknown c.args.defined.now c.args.imported.now)

pub loop-import-preserved : goal.loop-import-preserved
loop-import-preserved c =
    let is = c.is_defined.ensures c.args.defined.now c.in_ok-index.ensures in
    elim c.if-not-is_defined.branch [
      | then-not-is_defined+in_ok-push w ↦ filter_put (is_unknown c.args.defined.now) c.args.imported.now c.loop-import.import-index _ c.loop-import.found.items _ c.loop-import-test.true (ap not (sym is ∙ w.if-not-is_defined.true)) c.loop-import.invariant (ap (λ v. v.items) w.found-is ∙ w.in_ok-push.ensures.items)
      | else-not-is_defined w ↦ filter_left (is_unknown c.args.defined.now) c.args.imported.now c.loop-import.import-index _ c.loop-import.found.items _ c.loop-import-test.true (ap not (sym is ∙ w.if-not-is_defined.false)) c.loop-import.invariant (ap (λ v. v.items) w.found-is)
    ]
