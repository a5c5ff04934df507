use Rattle.std.proofs.Common.{subst}
use Rattle.std.proofs.lemmas.Result.{err_from_is_err_and}
use Rattle.asn1_components.specs.Alternatives.{all_of, trees_of}
use Rattle.asn1_laws.proofs.ReadingChoices.{choice_not_opened}
use Rattle.asn1_laws.proofs.ReadingSequences.{had_not_failed}
use Rattle.asn1_model.specs.ConstraintSets.{constraint_set}
use Rattle.asn1_slots.specs.TagIndices.{IsIndexOf}
use Rattle.asn1_nesting.proofs.OpenAndClosed.{none_has}
use Rattle.asn1_nesting.proofs.opening.open_untagged.Goals as goal

pub returns-in_err-tag-clause-not_read : goal.returns-in_err-tag-clause-not_read
returns-in_err-tag-clause-not_read g c =
    let p = err_from_is_err_and c.from_residual.result c.from_residual.ensures.1 in
    rw (p.1, p.2) (choice_not_opened g.D.Decoder.reader g.T.PartialEq.eq g.met.T.ChoiceType.agrees (constraint_set c.args.constraints.now) _ c.args.decoder.now c.in_err-tag.ensures.read)

pub returns-in-Some-clause-opened : goal.returns-in-Some-clause-opened
returns-in-Some-clause-opened g c = record {
  tag = _;
  head = c.in_ok-tag.ensures.read;
  begins = subst (IsIndexOf _ (trees_of (all_of g.T.Choice.alternatives))) c.in-Some.is c.index_of_tag.ensures;
  one_less = c.in_ok-tag.ensures.takes_depth.one_less;
  had_not_failed = had_not_failed _ c.in_ok-tag.ensures.takes_depth.failed_before;
}

pub returns-in-None-clause-not_read : goal.returns-in-None-clause-not_read
returns-in-None-clause-not_read g c =
    none_has g.D.Decoder.reader g.T.PartialEq.eq g.met.T.ChoiceType.agrees (constraint_set c.args.constraints.now) _ _ c.args.decoder.now _ c.in_ok-tag.ensures.read c.in_ok-tag.ensures.takes_depth.one_less
    (subst (IsIndexOf _ (trees_of (all_of g.T.Choice.alternatives))) c.in-None.is c.index_of_tag.ensures)
