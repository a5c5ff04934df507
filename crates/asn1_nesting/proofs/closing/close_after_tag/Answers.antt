use Rattle.std.proofs.lemmas.Result.{err_from_is_err_and}
use Rattle.asn1_components.specs.Alternatives.{all_of, chosen_meaning, table_of}
use Rattle.asn1_laws.proofs.ReadingChoices.{choice_after_tag_not_closed, choice_after_tag_not_read, choice_after_tag_read}
use Rattle.asn1_laws.proofs.ReadingSequences.{closed_again, fails_now}
use Rattle.asn1_laws.proofs.ReadingWhole.{tag_was_read}
use Rattle.asn1_model.specs.Readings.{IsReadAsAlternative}
use Rattle.asn1_nesting.proofs.closing.close_after_tag.Goals as goal

pub returns-in_err-value-clause-read : goal.returns-in_err-value-clause-read
returns-in_err-value-clause-read g c = λ t cs old opened index under is_open reads.
    let p = err_from_is_err_and c.from_residual.result c.from_residual.ensures.1 in
    rw (p.1, p.2) (choice_after_tag_not_read g.D.Decoder.reader g.T.PartialEq.eq g.met.T.ChoiceType.agrees t cs old is_open.between old old under is_open.head is_open.one_less
    (c.in_err-value.ensures.read g.T.AsnType.meaning.constraints is_open.between opened index is_open.inside reads))

pub returns-in_err-value-clause-keeps_depth : goal.returns-in_err-value-clause-keeps_depth
returns-in_err-value-clause-keeps_depth g c = λ t old opened index is_open same.
    let p = err_from_is_err_and c.from_residual.result c.from_residual.ensures.1 in
    let k = c.in_err-value.ensures.keeps_depth g.T.AsnType.meaning.constraints is_open.between opened index is_open.inside same in
    rw (p.1, p.2) (fails_now g.D.Decoder.reader old _ is_open.had_not_failed k.has_failed)

pub returns-in_err-close-clause-read : goal.returns-in_err-close-clause-read
returns-in_err-close-clause-read g c = λ t cs old opened index under is_open reads.
    let p = err_from_is_err_and c.from_residual-in_err-close.result c.from_residual-in_err-close.ensures.1 in
    rw (p.1, p.2) (choice_after_tag_not_closed g.D.Decoder.reader g.T.PartialEq.eq g.met.T.ChoiceType.agrees t cs old is_open.between _ old under is_open.head
    (c.in_ok-value.ensures.read g.T.AsnType.meaning.constraints is_open.between opened index is_open.inside reads) c.in_err-close.ensures.read)

pub returns-in_err-close-clause-keeps_depth : goal.returns-in_err-close-clause-keeps_depth
returns-in_err-close-clause-keeps_depth g c = λ t old opened index is_open same.
    let p = err_from_is_err_and c.from_residual-in_err-close.result c.from_residual-in_err-close.ensures.1 in
    rw (p.1, p.2) (fails_now g.D.Decoder.reader old _ is_open.had_not_failed c.in_err-close.ensures.gives_depth_back.has_failed)

pub returns-clause-read : goal.returns-clause-read
returns-clause-read g c = λ t cs old opened index under is_open reads.
    choice_after_tag_read g.D.Decoder.reader g.T.PartialEq.eq g.met.T.ChoiceType.agrees t cs old is_open.between _ _ under is_open.head is_open.one_less
    (c.in_ok-value.ensures.read g.T.AsnType.meaning.constraints is_open.between opened index is_open.inside reads) c.in_ok-close.ensures.read

pub returns-clause-keeps_depth : goal.returns-clause-keeps_depth
returns-clause-keeps_depth g c = λ t old opened index is_open same.
    let k = c.in_ok-value.ensures.keeps_depth g.T.AsnType.meaning.constraints is_open.between opened index is_open.inside same in
    closed_again g.D.Decoder.reader old is_open.between _ _ is_open.had_not_failed is_open.one_less k.same_depth
    c.in_ok-close.ensures.gives_depth_back.one_more c.in_ok-close.ensures.gives_depth_back.no_failure

pub returns-clause-only : goal.returns-clause-only
returns-clause-only g c = λ t old opened index (between, opens, inside) reads.
    tag_was_read g.D.Decoder.reader
    (IsReadAsAlternative (λ w. (chosen_meaning (all_of g.T.Choice.alternatives) (g.T.Choice.pick w)).AreReadAs) (table_of g.T.Choice.alternatives) g.T.AsnType.meaning.constraints) _
    old between _ _ (c.in_ok-value.ensures.only g.T.AsnType.meaning.constraints between opened index inside reads) c.in_ok-close.ensures.only t opens
