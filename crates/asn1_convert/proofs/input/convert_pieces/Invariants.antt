use Rattle.asn1_convert.proofs.Running.{ReadUpTo}
use Rattle.asn1_convert.proofs.input.convert_pieces.Given as goal

abbrev pub invariant-loop : goal.invariant-loop
invariant-loop g l =
    ReadUpTo l.fn.from l.fn.to (g.R.Read.remaining l.initial.reader) (g.R.Read.remaining l.reader) l.pieces
    (g.W.Write.contents l.initial.writer) (g.W.Write.contents l.writer)
