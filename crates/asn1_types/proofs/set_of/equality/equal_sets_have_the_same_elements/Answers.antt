-- Counting decides whether two lists have the same elements.
use Rattle.asn1_types.specs.MultisetLaws.{same_counts-SameElements}
use Rattle.asn1_types.proofs.set_of.equality.equal_sets_have_the_same_elements.Goals as goal

-- src/set_of/equality.rt
pub returns : goal.returns
returns g c = same_counts-SameElements g.met.T.PartialEq.laws c.args.left.now c.args.right.now
