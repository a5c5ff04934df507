use Rattle.std.proofs.Common.{◌≡◌, ◌∙◌, ap, sym}
use Rattle.std.specs.Ordering.{ordering_then}
use Rattle.asn1_tags.specs.Order.{structure_cmp, tree_cmp}
use Rattle.asn1_tags.specs.Trees.{leaves, shape}
use Rattle.asn1_tags.proofs.Smallest.{smallest_cmp}
use Rattle.asn1_tags.proofs.Structures.{first_decides, tree_cmp-Equal, Equal-tree_cmp}
use Rattle.asn1_tags.proofs.order.TagTreeOrd.cmp.Goals as goal

-- the smallest tags differ, and decide
pub returns-in_default : goal.returns-in_default
returns-in_default c =
    let s = shape c.args.self.now in
    let t = shape c.args.other.now in
    let least = c.smallest_tag in
    let other = c.smallest_tag-2 in
    let same = smallest_cmp (leaves s) (leaves t) least.result other.result least.ensures other.ensures in
    let decided : c.const_cmp.result ≡ tree_cmp s t =
    first_decides c.const_cmp.result (structure_cmp s t) c.in_default.not-Equal
    ∙ ap (λ o. ordering_then o (structure_cmp s t)) (c.const_cmp.ensures.canonical ∙ same) in
    record {
      member = decided;
      equal = (λ e. tree_cmp-Equal s t (sym decided ∙ e), λ e. decided ∙ Equal-tree_cmp s t e);
    }
