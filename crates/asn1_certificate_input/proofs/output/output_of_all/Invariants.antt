use Rattle.std.proofs.Common.{length, take}
use Rattle.asn1_certificate_input.specs.Answers.{AreAnswers}
use Rattle.asn1_certificate_input.proofs.output.output_of_all.Given as goal

abbrev pub invariant-loop-index : goal.invariant-loop-index
invariant-loop-index l =
    AreAnswers l.options (length l.certificates) (take l.index l.certificates) l.output.bytes.items l.output.messages.items l.output.is_refused
