use Rattle.asn1_elements.proofs.ReadExactly.{any_taken}
use Rattle.std.proofs.Common.{◌≡◌, Ok, Err, refl, ◌∙◌, arith, inl}
use Rattle.asn1_laws.proofs.ReadingUpToOrder.{reads_open_type}
use Rattle.asn1_elements.specs.Decoder.{in_one_order}
use Rattle.asn1_elements.proofs.RemainingElements.{element_of_record, is_form}
use Rattle.asn1_model.specs.Records.{open_type}
use Rattle.asn1_items.proofs.DecodeStates.{next_is}
use Rattle.asn1_elements.proofs.decoder.ElementDecoderDecoder.decode_any.Goals as goal

pub returns-in_err-element-clause-read : goal.returns-in_err-element-clause-read
returns-in_err-element-clause-read g c =
    let form = g.met.F.ElementForm.lawful in
    reads_open_type (in_one_order g.F.ElementForm.form) c.args.self.now c.take.new.self (λ w bytes. w ≡ bytes) c.from_residual.result
    (λ bytes n rest outer accepts at.
    let next = next_is (is_form form) c.args.self.now.state (open_type n bytes) rest outer at in
    let o = element_of_record (open_type n bytes) next.front (form.element (open_type n bytes) next.front refl next.has) in
    absurd (c.in_err-element.ensures.took next.front next.back o.element at.no_failure o.alone next.left))

pub returns-in-Ok-clause-read : goal.returns-in-Ok-clause-read
returns-in-Ok-clause-read g c =
    let form = g.met.F.ElementForm.lawful in
    reads_open_type (in_one_order g.F.ElementForm.form) c.args.self.now c.take.new.self (λ w bytes. w ≡ bytes) (Ok c.new.result)
    (λ bytes n rest outer accepts at.
    let next = next_is (is_form form) c.args.self.now.state (open_type n bytes) rest outer at in
    let o = element_of_record (open_type n bytes) next.front (form.element (open_type n bytes) next.front refl next.has) in
    let parsed = c.in_ok-element.ensures.took next.front next.back o.element at.no_failure o.alone next.left in
    record {
      answer = c.new.ensures ∙ c.in-Ok.ensures.items ∙ parsed.seen.bytes ∙ form.open_type n bytes next.front next.has;
      at = next.after c.take.new.self.state c.in_ok-element.ensures.opens_nothing.keeps_depth.no_failure parsed.left c.in_ok-element.ensures.outside;
      within_depth_left = omega arith;
    })

pub returns-in-Err-clause-read : goal.returns-in-Err-clause-read
returns-in-Err-clause-read g c =
    reads_open_type (in_one_order g.F.ElementForm.form) c.args.self.now c.take.new.self (λ w bytes. w ≡ bytes) (Err c.fail.result)
    (λ bytes n rest outer accepts at. inl c.fail.ensures.same)

pub returns-in-Ok-clause-only : goal.returns-in-Ok-clause-only
returns-in-Ok-clause-only g c = any_taken g.met.F.ElementForm.lawful c.args.self.now c.take.new.self c.in_ok-element.element c.new.result c.in_ok-element.ensures.taken (c.new.ensures ∙ c.in-Ok.ensures.items)
