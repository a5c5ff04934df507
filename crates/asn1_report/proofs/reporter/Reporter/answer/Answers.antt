use Rattle.std.proofs.Common.{None, Some, option_map}
use Rattle.std.proofs.lemmas.Result.{on_ok_weaker}
use Rattle.asn1_report.specs.Views.{statement_view, table_view}
use Rattle.asn1_report.proofs.Answering.{answered}
use Rattle.asn1_report.proofs.reporter.Reporter.answer.Goals as goal

pub returns-in-Some : goal.returns-in-Some
returns-in-Some c = record {
  answered = λ s stands.
      on_ok_weaker c.answer_statement.result
      (answered s (option_map (λ bytes. bytes.now) c.args.line) c.args.self.now
      (record {
        alloc = c.args.self.now.alloc;
        parser = c.parse.new.self;
        number = c.saturating_add-self.result;
        table = c.args.self.now.table;
        all_understood = c.args.self.now.all_understood;
        text = c.clear.new.self;
      })
      c.answer_statement.new.self c.is_some-in_table.result (Some (statement_view c.in-Some.statement)) stands c.is_some-in_table.ensures
      (rw c.in-Some.is at c.in_ok-statement.ensures.parsed) c.clear.ensures.items
      (λ i. record { number = c.saturating_add-self.ensures i; table = option_map table_view c.args.self.now.table; understood = c.args.self.now.all_understood }))
      c.answer_statement.ensures.given;
}

pub returns-in-None : goal.returns-in-None
returns-in-None c = record {
  answered = λ s stands.
      on_ok_weaker c.refuse_line.result
      (answered s (option_map (λ bytes. bytes.now) c.args.line) c.args.self.now
      (record {
        alloc = c.args.self.now.alloc;
        parser = c.parse.new.self;
        number = c.saturating_add-self.result;
        table = c.args.self.now.table;
        all_understood = c.args.self.now.all_understood;
        text = c.clear.new.self;
      })
      c.refuse_line.new.self c.is_some-in_table.result None stands c.is_some-in_table.ensures
      (rw c.in-None.is at c.in_ok-statement.ensures.parsed) c.clear.ensures.items
      (λ i. record { number = c.saturating_add-self.ensures i; table = option_map table_view c.args.self.now.table; understood = c.args.self.now.all_understood }))
      c.refuse_line.ensures.given;
}
