use Rattle.std.proofs.Common.{subst}
use Rattle.std.specs.Io.KnownBytes.{Appends}
use Rattle.std.proofs.lemmas.Result.{on_ok_weaker}
use Rattle.asn1_report.specs.Flattened.{HasAnswered}
use Rattle.asn1_report.specs.Report.{answer_to}
use Rattle.asn1_report.proofs.Taking.{line_ended}
use Rattle.asn1_report.proofs.checker.Checker.end_line.Goals as goal

pub returns-clause-taken : goal.returns-clause-taken
returns-clause-taken g c =
    on_ok_weaker c.write_text.result
    (λ (wrote : Appends (g.W.Write.contents c.args.writer.now) (g.W.Write.contents c.write_text.new.writer) c.text.result.now).
    line_ended (g.W.Write.contents c.args.writer.now) (g.W.Write.contents c.write_text.new.writer) c.args.self.now
    (record { line = c.clear.new.self; reporter = c.answer.new.self }) c.clear.ensures.empty
    (λ s stands. subst (λ line. HasAnswered (answer_to s line) c.answer.new.self) c.as_slice.ensures.bytes (c.in_ok-answer.ensures.answered s stands))
    (subst (Appends (g.W.Write.contents c.args.writer.now) (g.W.Write.contents c.write_text.new.writer)) c.text.ensures.text wrote))
    c.write_text.ensures.written
