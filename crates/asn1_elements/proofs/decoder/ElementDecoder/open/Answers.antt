use Rattle.asn1_elements.proofs.ReadExactly.{element_opened}
use Rattle.std.proofs.Common.{subst, arith, ◌∙◌}
use Rattle.asn1_elements.proofs.Inside.{asked_tag, begin_with_scope, opened_in_order}
use Rattle.asn1_elements.proofs.RemainingElements.{is_form}
use Rattle.asn1_elements.specs.ElementForms.{IsInsideElement}
use Rattle.asn1_model.specs.Records.{holding}
use Rattle.asn1_model.specs.Tags.{head_tag}
use Rattle.asn1_items.proofs.DecodeStates.{next_is, not_both, scope_opened}
use Rattle.asn1_elements.proofs.decoder.ElementDecoder.open.Goals as goal

pub returns-in_err-element-clause-read : goal.returns-in_err-element-clause-read
returns-in_err-element-clause-read g c = λ h items rest outer expected at.
    let form = g.met.F.ElementForm.lawful in
    let next = next_is (is_form form) c.args.self.now.state (holding h items) rest outer at in
    let s = form.inside h items next.front next.has in
    absurd (c.in_err-element.ensures.took next.front next.back s.element at.no_failure s.alone next.left)

pub returns-then-not-is_under-clause-read : goal.returns-then-not-is_under-clause-read
returns-then-not-is_under-clause-read g c = λ h items rest outer expected at.
    let form = g.met.F.ElementForm.lawful in
    let next = next_is (is_form form) c.args.self.now.state (holding h items) rest outer at in
    let s = form.inside h items next.front next.has in
    let parsed = c.in_ok-element.ensures.took next.front next.back s.element at.no_failure s.alone next.left in
    absurd (not_both c.is_under.result c.if-not-is_under.true (c.is_under.ensures.1 (asked_tag c.args.tag c.in_ok-element.element.tag (head_tag h) (parsed.seen.tag ∙ s.tag) expected.has_tag)))

pub returns-in_default-clause-read : goal.returns-in_default-clause-read
returns-in_default-clause-read g c = λ h items rest outer expected at.
    let form = g.met.F.ElementForm.lawful in
    let next = next_is (is_form form) c.args.self.now.state (holding h items) rest outer at in
    let s = form.inside h items next.front next.has in
    let parsed = c.in_ok-element.ensures.took next.front next.back s.element at.no_failure s.alone next.left in
    let is = subst (λ order. IsInsideElement order s.element next.front s.inside) expected.has_order s.is in
    let in_order = subst (λ order. g.F.ElementForm.AreInOrder order s.inside) expected.has_order s.in_order in
    absurd (c.in_default.ensures.found s.element next.front s.inside parsed.seen is in_order)

pub returns-clause-read : goal.returns-clause-read
returns-clause-read g c = λ h items rest outer expected at.
    let form = g.met.F.ElementForm.lawful in
    let next = next_is (is_form form) c.args.self.now.state (holding h items) rest outer at in
    let s = form.inside h items next.front next.has in
    let parsed = c.in_ok-element.ensures.took next.front next.back s.element at.no_failure s.alone next.left in
    let is = subst (λ order. IsInsideElement order s.element next.front s.inside) expected.has_order s.is in
    let in_order = subst (λ order. g.F.ElementForm.AreInOrder order s.inside) expected.has_order s.in_order in
    let inside = c.in-Some.ensures.found s.element next.front s.inside parsed.seen is in_order in
    let kept = c.in_ok-element.ensures in
    let opened = c.open.ensures in
    scope_opened (is_form form) (λ d. d.state) c.args.self.now c.take.new.self _ h items rest outer s.inside _ _ c.open.result s.have
    (next.after c.take.new.self.state kept.opens_nothing.keeps_depth.no_failure parsed.left kept.outside) (omega arith) kept.opens_nothing.keeps_depth.same_depth (parsed.seen.tag ∙ s.tag) inside opened.opened opened.no_failure opened.failed opened.too_deep opened.memory

pub returns-clause-in_order : goal.returns-clause-in_order
returns-clause-in_order g c = opened_in_order (g.F.ElementForm.AreInOrder c.args.order) c.in-Some.inside.now _ _ _ c.open.result c.in-Some.ensures.in_order c.open.ensures.opened

pub returns-clause-only : goal.returns-clause-only
returns-clause-only g c =
    begin_with_scope c.args.order c.args.tag c.in_ok-element.element c.in-Some.inside.now _ c.open.result c.in_ok-element.ensures.only (c.is_under.ensures.0 c.if-not-is_under.false) (λ e own seen. c.in-Some.ensures.only e own seen)

pub returns-clause-opened : goal.returns-clause-opened
returns-clause-opened g c =
    element_opened c.args.order c.args.tag c.in_ok-element.element c.in-Some.inside.now c.args.self.now.state c.take.new.self.state _ c.open.result c.in_ok-element.ensures.taken (c.is_under.ensures.0 c.if-not-is_under.false)
    (λ e own seen. c.in-Some.ensures.only e own seen) c.open.ensures.opened
