use Rattle.std.proofs.Common.{◌≡◌, ◌<◌, length, true, false, arith, sym, subst, ◌∙◌}
use Rattle.std.specs.List.{position_or_len}
use Rattle.asn1_tags.specs.Tags.{has, tag_eq}
use Rattle.asn1_tags.specs.Trees.{leaves, shape}
use Rattle.asn1_tags.proofs.Leaves.{count_upto}
use Rattle.asn1_tags.proofs.Positions.{found_at, passed_at}
use Rattle.asn1_tags.proofs.leaf_positions.+find.Goals as goal

pub first_index-returns-in-Ok : goal.first_index-returns-in-Ok
first_index-returns-in-Ok t c = λ fits.
    let tag = c.args.tag.now in
    let ts = c.args.nodes.now in
    let i = c.loop-node.node-index in
    let tree = c.node-item.result in
    let lt = c.loop-node-test.true in
    let upto = count_upto ts i tree lt in
    let short : length (leaves (shape tree)) < 18446744073709551616 =
    subst (λ x. length (leaves (shape x)) < 18446744073709551616) (sym c.node-item.is) (omega arith) in
    let found = subst (λ x. (has tag (leaves (shape x)) ≡ true) × (c.in-Ok.index ≡ position_or_len (λ s. tag_eq s tag) (leaves (shape x))))
    c.node-item.is (c.in-Ok.ensures short) in
    let whole = found_at tag ts i c.loop-node.passed c.in-Ok.index tree lt (c.loop-node.invariant fits) found fits in
    (whole.0, c.saturating_add.ensures ∙ whole.1)

pub first_index-loop-node-preserved : goal.first_index-loop-node-preserved
first_index-loop-node-preserved t c = λ fits.
    let tag = c.args.tag.now in
    let ts = c.args.nodes.now in
    let i = c.loop-node.node-index in
    let tree = c.node-item.result in
    let lt = c.loop-node-test.true in
    let upto = count_upto ts i tree lt in
    let short : length (leaves (shape tree)) < 18446744073709551616 =
    subst (λ x. length (leaves (shape x)) < 18446744073709551616) (sym c.node-item.is) (omega arith) in
    let absent = subst (λ x. (has tag (leaves (shape x)) ≡ false) × (c.in-Err.count ≡ length (leaves (shape x))))
    c.node-item.is (c.in-Err.ensures short) in
    let whole = passed_at tag ts i c.loop-node.passed c.in-Err.count tree lt (c.loop-node.invariant fits) absent fits in
    (c.saturating_add-passed.ensures ∙ whole.0, whole.1)
