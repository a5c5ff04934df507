use Rattle.std.proofs.Common.{codes, ◌++◌, refl, ap, ◌∙◌}
use Rattle.asn1_report.specs.Texts.{named_line}
use Rattle.asn1_report.proofs.Answering.{tree_said}
use Rattle.asn1_report.proofs.reporter.Reporter.answer_tree.Goals as goal

pub returns : goal.returns
returns c = record {
  given = record {
    text =
        c.in_ok-write_verdict.ensures.line
        ∙ ap (λ said. c.args.self.now.text.items ++ named_line (codes "tree") c.args.name.now said)
        (tree_said c.args.tree c.deref_mut.result.now _ _ _ c.deref_mut.ensures.value c.of.ensures.unique c.of.ensures.smallest c.of.ensures.count);
    state = refl;
  };
}
