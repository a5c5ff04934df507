use Rattle.asn1_fields.specs.DistinctTags.{IsLeast}
use Rattle.asn1_clash.proofs.Occurrences.{Neighbours}
use Rattle.asn1_clash.proofs.search.pair_with_equal_tags.Given as goal

-- the least pair of neighbours among the first
abbrev pub invariant-loop-i : goal.invariant-loop-i
invariant-loop-i l = IsLeast (Neighbours l.all l.i) l.least
