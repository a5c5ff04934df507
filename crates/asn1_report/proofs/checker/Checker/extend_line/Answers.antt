use Rattle.std.proofs.lemmas.Result.{on_ok_weaker}
use Rattle.asn1_report.proofs.Taking.{line_extended}
use Rattle.asn1_report.proofs.checker.Checker.extend_line.Goals as goal

pub returns : goal.returns
returns c = record {
  taken = on_ok_weaker c.extend.result (λ longer written. line_extended c.args.bytes.now written c.args.self.now c.extend.new.self c.requires.no_feed longer) c.extend.ensures.longer;
}
