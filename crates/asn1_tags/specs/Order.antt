-- The order of trees of tags.
use Rattle.std.specs.declared.cmp.Ordering.{Ordering}
use Rattle.std.specs.declared.cmp.Ordering.TheVariants.{Less, Equal, Greater}
use Rattle.std.specs.Ordering.{on, then_cmp, ordering_then}
use Rattle.asn1_tags.specs.Tags.{tag_cmp, smallest}
use Rattle.asn1_tags.specs.Trees.{Tree, Trees, leaf, choice, none, more, leaves}

-- By structure: a leaf comes before a choice, leaves go by tag, and choices lexicographically by the structure of their trees.
abbrev mutual
  pub structure_cmp : Tree → Tree → Ordering
  structure_cmp (leaf s) (leaf t) = tag_cmp s t
  structure_cmp (leaf s) (choice us) = Less
  structure_cmp (choice ts) (leaf u) = Greater
  structure_cmp (choice ts) (choice us) = structures_cmp ts us

  pub structures_cmp : Trees → Trees → Ordering
  structures_cmp none none = Equal
  structures_cmp none (more u us) = Less
  structures_cmp (more t ts) none = Greater
  structures_cmp (more t ts) (more u us) = ordering_then (structure_cmp t u) (structures_cmp ts us)

-- Trees go by their smallest tag, and where that is the same, by structure.
abbrev pub tree_cmp : Tree → Tree → Ordering
tree_cmp = then_cmp (on (λ t. smallest (leaves t)) tag_cmp) structure_cmp
