use Rattle.std.proofs.Common.{subst, sym}
use Rattle.std.specs.Io.KnownBytes.{Appends}
use Rattle.asn1_report.specs.Flattened.{HasAnswered}
use Rattle.asn1_report.specs.Reading.{Ends}
use Rattle.asn1_report.specs.Report.{answer_to}
use Rattle.asn1_report.proofs.Taking.{input_ended}
use Rattle.asn1_report.proofs.checker.Checker.end_input.Goals as goal

pub returns-clause-ended : goal.returns-clause-ended
returns-clause-ended g c =
    subst (Ends (g.W.Write.contents c.args.writer.now) (g.W.Write.contents c.write_text.new.writer) c.args.self.now) (sym c.all_understood.ensures.understood)
    (input_ended (g.W.Write.contents c.args.writer.now) (g.W.Write.contents c.write_text.new.writer) c.args.self.now c.answer.new.self c.answer_end.new.self
    (λ s stands. subst (λ line. HasAnswered (answer_to s line) c.answer.new.self) c.as_slice.ensures.bytes (c.in_ok-answer.ensures.answered s stands))
    c.in_ok-answer_end.ensures.given
    (subst (Appends (g.W.Write.contents c.args.writer.now) (g.W.Write.contents c.write_text.new.writer)) c.text.ensures.text c.in_ok-write_text.ensures.written))
