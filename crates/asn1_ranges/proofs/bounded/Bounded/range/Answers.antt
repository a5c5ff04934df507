use Rattle.std.proofs.Common.{sym}
use Rattle.asn1_ranges.proofs.Counting.{bound-count}
use Rattle.asn1_ranges.proofs.bounded.Bounded.range.Goals as goal

pub returns-clause-counted : goal.returns-clause-counted
returns-clause-counted g c =
    (_, bound-count g.T.WholeNumber.number _ _ _ (sym c.in_ok-start.ensures) (sym c.in_ok-end.ensures), c.count_to.ensures)
