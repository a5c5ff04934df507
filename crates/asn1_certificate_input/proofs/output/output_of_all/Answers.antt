use Rattle.std.proofs.Common.{ap, arith, length, subst, sym, take, ◌∙◌}
use Rattle.std.proofs.lemmas.List.{length-take-le}
use Rattle.asn1_certificate_input.proofs.NextAnswers.{take_next}
use Rattle.asn1_certificate_input.specs.Answers.{AreAnswers, none, number_of}
use Rattle.asn1_certificate_input.proofs.output.output_of_all.Goals as goal

pub loop-index-init : goal.loop-index-init
loop-index-init c = rw (c.empty-output.ensures.bytes, c.empty-output.ensures.messages, c.empty-output.ensures.not_refused) none

pub loop-index-preserved : goal.loop-index-preserved
loop-index-preserved c =
    let certificates = c.args.certificates.now in
    let index = c.loop-index.index in
    let as_many = length-take-le index certificates (omega (arith, c.loop-index-test.true)) in
    subst (λ found. AreAnswers c.args.options (length certificates) found c.add_answer.new.self.bytes.items c.add_answer.new.self.messages.items c.add_answer.new.self.is_refused)
    (sym (take_next certificates index c.index-certificates-index.result c.loop-index-test.true c.index-certificates-index.is))
    (c.in_ok-add_answer.ensures (length certificates) (take index certificates) c.index-certificates-index.result
    (c.number_of-number.ensures ∙ ap (λ n. number_of n (length certificates)) (sym as_many)) c.loop-index.invariant c.answer_of-answer.ensures.shown c.answer_of-answer.ensures.refused)
