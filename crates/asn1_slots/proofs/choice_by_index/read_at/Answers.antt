use Rattle.std.proofs.Common.{subst}
use Rattle.asn1_components.specs.Alternatives.{all_of, trees_of}
use Rattle.asn1_slots.proofs.ReadChoices.{case_was_read, its_index, lacks, reads_chosen}
use Rattle.asn1_slots.specs.Cases.{alternatives_of}
use Rattle.asn1_slots.specs.TagIndices.{IsIndexOf}
use Rattle.asn1_slots.proofs.choice_by_index.read_at.Goals as goal

pub returns-in-Some-clause-read : goal.returns-in-Some-clause-read
returns-in-Some-clause-read g c = λ t is v rest outer distinct can of_type valid has.
    let at = subst (IsIndexOf t (trees_of (alternatives_of g.T.DecodeChoiceByIndex.cases))) c.in-Some.is is in
    reads_chosen g.D.Decoder.reader g.T.PartialEq.eq _ _ v rest outer g.T.DecodeChoiceByIndex.cases g.T.DecodeChoiceByIndex.case_of _ _ g.met.T.DecodeChoiceByIndex.made
    t distinct can has at of_type valid c.decode_alternative.ensures.read

pub returns-in-Some-clause-unknown : goal.returns-in-Some-clause-unknown
returns-in-Some-clause-unknown g c = λ t is none.
    let alts = all_of g.T.Choice.alternatives in
    absurd (lacks alts _ t none (subst (IsIndexOf t (trees_of alts)) c.in-Some.is is))

pub returns-in-None-clause-read : goal.returns-in-None-clause-read
returns-in-None-clause-read g c = λ t is v rest outer distinct can of_type valid has.
    let alts = alternatives_of g.T.DecodeChoiceByIndex.cases in
    absurd (subst (IsIndexOf t (trees_of alts)) c.in-None.is is _ (its_index alts (g.T.DecodeChoiceByIndex.case_of v) t can has))

pub returns-in-Some-clause-only : goal.returns-in-Some-clause-only
returns-in-Some-clause-only g c =
    case_was_read g.D.Decoder.reader _ _ g.T.DecodeChoiceByIndex.cases g.T.DecodeChoiceByIndex.case_of _ c.decode_alternative.result c.decode_alternative.ensures.read
