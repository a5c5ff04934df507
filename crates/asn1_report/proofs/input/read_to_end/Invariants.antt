use Rattle.asn1_report.proofs.Reading.{ReadUpTo}
use Rattle.asn1_report.proofs.input.read_to_end.Given as goal

abbrev pub invariant-loop : goal.invariant-loop
invariant-loop g l =
    ReadUpTo
    (g.R.Read.remaining l.initial.reader)
    (g.R.Read.remaining l.reader)
    (g.W.Write.contents l.initial.writer)
    (g.W.Write.contents l.writer)
    l.checker
