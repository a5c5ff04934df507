use Rattle.asn1_elements.proofs.ReadExactly.{value_taken}
use Rattle.std.proofs.Common.{◌∙◌, Ok, Err, arith, inl}
use Rattle.asn1_laws.proofs.ReadingUpToOrder.{reads_content}
use Rattle.asn1_der_items.proofs.OneElement.{one_of}
use Rattle.asn1_elements.proofs.RemainingElements.{is_form}
use Rattle.asn1_elements.specs.Decoder.{in_one_order}
use Rattle.asn1_model.specs.Records.{scalar}
use Rattle.asn1_items.proofs.DecodeStates.{next_is, not_both}
use Rattle.asn1_elements.proofs.decoder.ElementDecoder.scalar.Goals as goal

pub returns-in_err-element-clause-read : goal.returns-in_err-element-clause-read
returns-in_err-element-clause-read g c = λ content same k.
    let form = g.met.F.ElementForm.lawful in
    reads_content (in_one_order g.F.ElementForm.form) c.args.self.now c.take.new.self c.args.tag k content g.V.FromContents.MayCome g.V.FromContents.IsReadOf c.from_residual.result
    (λ x n rest outer of_type at.
    let next = next_is (is_form form) c.args.self.now.state (scalar c.args.tag k n (content x)) rest outer at in
    let o = one_of c.args.tag next.front (form.content c.args.tag k n (content x) next.front next.has) in
    absurd (c.in_err-element.ensures.took next.front next.back o.element at.no_failure o.alone next.left))

pub returns-then-not-is_under-clause-read : goal.returns-then-not-is_under-clause-read
returns-then-not-is_under-clause-read g c = λ content same k.
    let form = g.met.F.ElementForm.lawful in
    reads_content (in_one_order g.F.ElementForm.form) c.args.self.now c.take.new.self c.args.tag k content g.V.FromContents.MayCome g.V.FromContents.IsReadOf (Err c.fail.result)
    (λ x n rest outer of_type at.
    let next = next_is (is_form form) c.args.self.now.state (scalar c.args.tag k n (content x)) rest outer at in
    let o = one_of c.args.tag next.front (form.content c.args.tag k n (content x) next.front next.has) in
    let parsed = c.in_ok-element.ensures.took next.front next.back o.element at.no_failure o.alone next.left in
    absurd (not_both c.is_under.result c.if-not-is_under.true (c.is_under.ensures.1 (parsed.seen.tag ∙ o.tag))))

pub returns-in-Ok-clause-read : goal.returns-in-Ok-clause-read
returns-in-Ok-clause-read g c = λ content same k.
    let form = g.met.F.ElementForm.lawful in
    reads_content (in_one_order g.F.ElementForm.form) c.args.self.now c.take.new.self c.args.tag k content g.V.FromContents.MayCome g.V.FromContents.IsReadOf (Ok c.in-Ok.value)
    (λ x n rest outer of_type at.
    let next = next_is (is_form form) c.args.self.now.state (scalar c.args.tag k n (content x)) rest outer at in
    let o = one_of c.args.tag next.front (form.content c.args.tag k n (content x) next.front next.has) in
    let parsed = c.in_ok-element.ensures.took next.front next.back o.element at.no_failure o.alone next.left in
    record {
      answer = c.in-Ok.ensures.read c.args.tag k n (content x) x o.element next.front (same x) of_type o.alone parsed.seen next.has;
      at = next.after c.take.new.self.state c.in_ok-element.ensures.opens_nothing.keeps_depth.no_failure parsed.left c.in_ok-element.ensures.outside;
      within_depth_left = omega arith;
    })

pub returns-in-Err-clause-read : goal.returns-in-Err-clause-read
returns-in-Err-clause-read g c = λ content same k.
    let form = g.met.F.ElementForm.lawful in
    reads_content (in_one_order g.F.ElementForm.form) c.args.self.now c.take.new.self c.args.tag k content g.V.FromContents.MayCome g.V.FromContents.IsReadOf (Err c.fail_with.result)
    (λ x n rest outer of_type at.
    let next = next_is (is_form form) c.args.self.now.state (scalar c.args.tag k n (content x)) rest outer at in
    let o = one_of c.args.tag next.front (form.content c.args.tag k n (content x) next.front next.has) in
    let parsed = c.in_ok-element.ensures.took next.front next.back o.element at.no_failure o.alone next.left in
    inl (c.fail_with.ensures.memory (c.in-Err.ensures.read c.args.tag k n (content x) x o.element next.front (same x) of_type o.alone parsed.seen next.has)))

pub returns-in-Ok-clause-only : goal.returns-in-Ok-clause-only
returns-in-Ok-clause-only g c =
    record { element = _; at = c.in_ok-element.ensures.only.at; has_tag = c.is_under.ensures.0 c.if-not-is_under.false; form = c.in-Ok.ensures.only }

pub returns-in-Ok-clause-carried : goal.returns-in-Ok-clause-carried
returns-in-Ok-clause-carried g c =
    value_taken g.met.F.ElementForm.lawful c.args.self.now c.take.new.self g.V.FromContents.spelled _ c.args.tag c.in_ok-element.element c.in_ok-element.ensures.taken (c.is_under.ensures.0 c.if-not-is_under.false) c.in-Ok.ensures.carried
