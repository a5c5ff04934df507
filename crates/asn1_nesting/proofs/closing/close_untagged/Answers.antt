use Rattle.std.proofs.Common.{Err, Ok, subst}
use Rattle.std.specs.Prelude.{OnOk, ◌≡◌}
use Rattle.std.proofs.lemmas.Result.{err_from_is_err_and}
use Rattle.asn1_components.specs.Alternatives.{all_of, chosen_meaning, table_of}
use Rattle.asn1_laws.proofs.ReadingChoices.{alternative_not_read, choice_not_closed, choice_read}
use Rattle.asn1_laws.proofs.ReadingSequences.{closed_again, fails_now}
use Rattle.asn1_laws.proofs.ReadingWhole.{alternative_was_read}
use Rattle.asn1_slots.specs.Cases.{ReadsCaseAt}
use Rattle.asn1_nesting.proofs.OpenAndClosed.{reads_at_index, was_read_at}
use Rattle.asn1_nesting.proofs.closing.close_untagged.Goals as goal

pub returns-in-Err-clause-read : goal.returns-in-Err-clause-read
returns-in-Err-clause-read g c = λ cs old opened index is_open reads.
    let given = subst (ReadsCaseAt g.D.Decoder.reader g.T.HoldsItself.cases g.T.HoldsItself.case_of index opened c.args.decoder.now) c.in-Err.is reads in
    rw c.refuse.ensures.same (alternative_not_read g.D.Decoder.reader g.T.PartialEq.eq g.met.T.ChoiceType.agrees cs old opened c.args.decoder.now c.args.decoder.now is_open.tag is_open.head is_open.one_less
    (reads_at_index g.D.Decoder.reader g.T.PartialEq.eq g.T.HoldsItself.cases g.T.HoldsItself.case_of g.T.Choice.alternatives g.T.Choice.pick g.met.T.HoldsItself.are_cases g.met.T.HoldsItself.made index is_open.tag opened c.args.decoder.now (Err c.in-Err.error) is_open.begins given))

pub returns-in-Err-clause-keeps_depth : goal.returns-in-Err-clause-keeps_depth
returns-in-Err-clause-keeps_depth g c = λ cs old opened index is_open same. fails_now g.D.Decoder.reader old _ is_open.had_not_failed c.refuse.ensures.has_failed

pub returns-in_err-close-clause-read : goal.returns-in_err-close-clause-read
returns-in_err-close-clause-read g c = λ cs old opened index is_open reads.
    let p = err_from_is_err_and c.from_residual.result c.from_residual.ensures.1 in
    let given = subst (ReadsCaseAt g.D.Decoder.reader g.T.HoldsItself.cases g.T.HoldsItself.case_of index opened c.args.decoder.now) c.in-Ok.is reads in
    rw (p.1, p.2) (choice_not_closed g.D.Decoder.reader g.T.PartialEq.eq g.met.T.ChoiceType.agrees cs old opened c.args.decoder.now c.args.decoder.now is_open.tag is_open.head
    (reads_at_index g.D.Decoder.reader g.T.PartialEq.eq g.T.HoldsItself.cases g.T.HoldsItself.case_of g.T.Choice.alternatives g.T.Choice.pick g.met.T.HoldsItself.are_cases g.met.T.HoldsItself.made index is_open.tag opened c.args.decoder.now (Ok c.in-Ok.value) is_open.begins given)
    c.in_err-close.ensures.read)

pub returns-in_err-close-clause-keeps_depth : goal.returns-in_err-close-clause-keeps_depth
returns-in_err-close-clause-keeps_depth g c = λ cs old opened index is_open same.
    let p = err_from_is_err_and c.from_residual.result c.from_residual.ensures.1 in
    rw (p.1, p.2) (fails_now g.D.Decoder.reader old _ is_open.had_not_failed c.in_err-close.ensures.gives_depth_back.has_failed)

pub returns-clause-read : goal.returns-clause-read
returns-clause-read g c = λ cs old opened index is_open reads.
    let given = subst (ReadsCaseAt g.D.Decoder.reader g.T.HoldsItself.cases g.T.HoldsItself.case_of index opened c.args.decoder.now) c.in-Ok.is reads in
    choice_read g.D.Decoder.reader g.T.PartialEq.eq g.met.T.ChoiceType.agrees cs old opened c.args.decoder.now _ is_open.tag is_open.head is_open.one_less
    (reads_at_index g.D.Decoder.reader g.T.PartialEq.eq g.T.HoldsItself.cases g.T.HoldsItself.case_of g.T.Choice.alternatives g.T.Choice.pick g.met.T.HoldsItself.are_cases g.met.T.HoldsItself.made index is_open.tag opened c.args.decoder.now (Ok c.in-Ok.value) is_open.begins given)
    c.in_ok-close.ensures.read

pub returns-clause-keeps_depth : goal.returns-clause-keeps_depth
returns-clause-keeps_depth g c = λ cs old opened index is_open same.
    closed_again g.D.Decoder.reader old opened c.args.decoder.now _ is_open.had_not_failed is_open.one_less
    (subst (λ a. OnOk a (g.D.Decoder.reader.depth_left c.args.decoder.now ≡ g.D.Decoder.reader.depth_left opened)) c.in-Ok.is same)
    c.in_ok-close.ensures.gives_depth_back.one_more c.in_ok-close.ensures.gives_depth_back.no_failure

pub returns-clause-only : goal.returns-clause-only
returns-clause-only g c = λ cs old opened index opens reads.
    let given = subst (ReadsCaseAt g.D.Decoder.reader g.T.HoldsItself.cases g.T.HoldsItself.case_of index opened c.args.decoder.now) c.in-Ok.is reads in
    alternative_was_read g.D.Decoder.reader (λ w. (chosen_meaning (all_of g.T.Choice.alternatives) (g.T.Choice.pick w)).AreReadAs) _ old opened c.args.decoder.now c.close.new.self
    (was_read_at g.D.Decoder.reader g.T.HoldsItself.cases g.T.HoldsItself.case_of g.T.Choice.alternatives g.T.Choice.pick g.met.T.HoldsItself.are_cases index opened c.args.decoder.now c.in-Ok.value given)
    c.in_ok-close.ensures.only cs (table_of g.T.Choice.alternatives) opens
