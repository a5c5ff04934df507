use Rattle.std.proofs.Common.{arith}
use Rattle.std.proofs.lemmas.Grind.{common_steps}
use Rattle.asn1_tags.specs.Trees.{leaves, shape}
use Rattle.asn1_fields.proofs.SharedTags.{have_common_tag-is}
use Rattle.asn1_fields.proofs.distinct_tags.share_tag.Goals as goal
use Rattle.asn1_fields.proofs.distinct_tags.share_tag.Goals.{then-has_empty_choice, else-has_empty_choice}

-- no choice of nothing is in either, so the leaves decide
pub returns-else-has_empty_choice-2 : goal.returns-else-has_empty_choice-2
returns-else-has_empty_choice-2 c =
    let ts = leaves (shape c.args.field.now.tag_tree) in
    let us = leaves (shape c.args.other.now.tag_tree) in
    let common = have_common_tag-is ts us c.shares_leaf.result c.shares_leaf.ensures.0 c.shares_leaf.ensures.1 in
    elim c.if-has_empty_choice.branch [
      | then-has_empty_choice w ↦ grind (arith, common_steps, common)
      | else-has_empty_choice w ↦ grind (arith, common_steps, common)
    ]
