use Rattle.std.proofs.Common.{subst}
use Rattle.std.proofs.lemmas.Result.{err_from_is_err_and}
use Rattle.asn1_model.specs.Records.{present, absent}
use Rattle.asn1_model.specs.Tags.{tree_tags}
use Rattle.asn1_tags.specs.Trees.{shape}
use Rattle.asn1_items.specs.NextTags.{IsNext}
use Rattle.asn1_tagform.proofs.PresenceByTag.{not_found, found, none_found}
use Rattle.asn1_tagform.proofs.next_item.NextItemPresence.component.Goals as goal

pub returns-in_err-tag-clause-found : goal.returns-in_err-tag-clause-found
returns-in_err-tag-clause-found c = λ side t.
    let p = err_from_is_err_and c.from_residual.result c.from_residual.ensures.1 in
    rw (p.1) (not_found c.args.slices.now (present side t) (absent side t) (tree_tags (shape c.args.tree)) _ (λ rs left. c.in_err-tag.ensures rs left))

pub returns-in-Some-clause-found : goal.returns-in-Some-clause-found
returns-in-Some-clause-found c = λ side t.
    found c.args.slices.now (present side t) (absent side t) (tree_tags (shape c.args.tree)) c.in-Some.tag c.can_begin_with.result (λ rs left. subst (IsNext rs) c.in-Some.is (c.in_ok-tag.ensures rs left)) c.can_begin_with.ensures

pub returns-in-None-clause-found : goal.returns-in-None-clause-found
returns-in-None-clause-found c = λ side t.
    none_found c.args.slices.now (present side t) (absent side t) (tree_tags (shape c.args.tree)) (λ rs left. subst (IsNext rs) c.in-None.is (c.in_ok-tag.ensures rs left))
