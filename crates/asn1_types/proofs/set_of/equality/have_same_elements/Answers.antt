-- Counting decides whether two lists have the same elements.
use Rattle.asn1_types.specs.MultisetLaws.{same_counts-SameElements}
use Rattle.asn1_types.proofs.set_of.equality.have_same_elements.Goals as goal

-- src/set_of/equality.rt
pub returns-clause-same : goal.returns-clause-same
returns-clause-same g c =
    rw c.have_same_counts.ensures (same_counts-SameElements g.met.T.PartialEq.laws c.args.elements.now c.args.others.now)
