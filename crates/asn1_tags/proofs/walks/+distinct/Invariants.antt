use Rattle.std.proofs.Common.{◌≡◌, drop}
use Rattle.asn1_tags.specs.Tags.{distinct}
use Rattle.asn1_tags.specs.Trees.{leaves_of, shapes}
use Rattle.asn1_tags.proofs.walks.+distinct.Given as goal

-- the rest of the trees decides
abbrev pub invariant-have_distinct_leaves-loop-i : goal.invariant-have_distinct_leaves-loop-i
invariant-have_distinct_leaves-loop-i l = distinct (leaves_of (shapes l.nodes)) ≡ distinct (leaves_of (shapes (drop l.i l.nodes)))
