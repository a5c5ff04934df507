use Rattle.std.proofs.Common.{◌≡◌, drop}
use Rattle.asn1_tags.specs.Order.{structures_cmp}
use Rattle.asn1_tags.specs.Trees.{shapes}
use Rattle.asn1_tags.proofs.order.+structure.Given as goal

-- the rest of the lists decides
abbrev pub invariant-cmp_structures-loop-i : goal.invariant-cmp_structures-loop-i
invariant-cmp_structures-loop-i l =
    structures_cmp (shapes l.nodes) (shapes l.others) ≡ structures_cmp (shapes (drop l.i l.nodes)) (shapes (drop l.i l.others))
