use Rattle.std.proofs.Common.{refl, arith}
use Rattle.std.proofs.lemmas.Result.{IfOk-weaker}
use Rattle.asn1_model.specs.Records.{holding}
use Rattle.asn1_bench.proofs.ReadItems.{item_opened}
use Rattle.asn1_bench.proofs.RemainingItems.{is_form, scope_at, expected_met}
use Rattle.asn1_items.proofs.DecodeStates.{next_is, scope_opened}
use Rattle.asn1_bench.proofs.decoder.ItemDecoder.open.Goals as goal

pub returns-in_err-item-clause-read : goal.returns-in_err-item-clause-read
returns-in_err-item-clause-read g c = λ h items rest outer expected at.
    let marks = g.P.Presence.mark_bytes in
    let next = next_is (is_form marks) c.args.self.now.state (holding h items) rest outer at in
    absurd (c.in_err-item.ensures.took _ next.has.inside next.back at.no_failure (scope_at marks h items next.front next.back _ next.has next.left) refl refl (expected_met c.args.expected h _ _ expected))

pub returns-clause-read : goal.returns-clause-read
returns-clause-read g c = λ h items rest outer expected at.
    let marks = g.P.Presence.mark_bytes in
    let next = next_is (is_form marks) c.args.self.now.state (holding h items) rest outer at in
    let took = c.in_ok-item.ensures in
    let taken = took.took _ next.has.inside next.back at.no_failure (scope_at marks h items next.front next.back _ next.has next.left) refl refl (expected_met c.args.expected h _ _ expected) in
    let opened = c.open.ensures in
    scope_opened (is_form marks) (λ d. d.state) c.args.self.now c.take.new.self _ h items rest outer next.has.inside _ _ c.open.result next.has.is
    (next.after c.take.new.self.state took.opens_nothing.keeps_depth.no_failure taken.left took.outside) (omega arith) took.opens_nothing.keeps_depth.same_depth taken.tag taken.inside_is opened.opened opened.no_failure opened.failed opened.too_deep opened.memory

pub returns-clause-only : goal.returns-clause-only
returns-clause-only g c =
    let took = c.in_ok-item.ensures in
    IfOk-weaker c.open.result _ _
    (λ opened is_open h of. item_opened g.P.Presence.mark_bytes c.args.self.now _ c.if-self.false c.take.new.self c.args.expected c.in_ok-item.item opened h took.outside took.only is_open of) c.open.ensures.opened
