use Rattle.std.proofs.Common.{[], append-nil, arith, refl, sym}
use Rattle.std.specs.Global.{Vec}
use Rattle.std.specs.Prelude.{Some, codes}
use Rattle.std.proofs.lemmas.Result.{err_from_is_err_and}
use Rattle.asn1_components.specs.Components.{all_components}
use Rattle.asn1_laws.proofs.ReadingComponents.{begin, step, stops, through}
use Rattle.asn1_laws.proofs.ReadingWhole.{both_were_read}
use Rattle.asn1_model.specs.ConstraintSets.{constraint_set, unconstrained}
use Rattle.asn1_model.specs.Tags.{universal}
use Rattle.asn1_nesting.proofs.ListsRead.{all_read, all_read_exactly, element_not_read, filled_up, more_not_told, none_read, one_more_read}
use Rattle.asn1_samples.proofs.NodeLaws.{node_can, same_nodes}
use Rattle.asn1_samples.specs.NodeComponents.{node_components, node_meaning}
use Rattle.asn1_samples.specs.contracts.node.NodePartialEq.TheImpl.{ghosts}
use Rattle.asn1_samples.specs.declared.node.Node.{Node, out-Node, out-roll-Node}
use Rattle.asn1_samples.proofs.node_reader.+node_reader.Goals as goal

pub read_components-returns-in_err-label-clause-read : goal.read_components-returns-in_err-label-clause-read
read_components-returns-in_err-label-clause-read g t c = λ v rest outer can of_type valid ends at.
    let p = err_from_is_err_and c.from_residual.result c.from_residual.ensures.1 in
    let start = begin g.D.Decoder.reader _ (all_components node_components) v rest outer can of_type valid ends at in
    rw (p.1, p.2) (stops start (λ can of_type valid apart at. c.in_err-label.ensures.read (out-Node v).label (Some (codes "UTF8String")) _ outer can of_type valid (λ _. apart) at))

pub read_components-returns-in_err-children-clause-read : goal.read_components-returns-in_err-children-clause-read
read_components-returns-in_err-children-clause-read g t c = λ v rest outer can of_type valid ends at.
    let p = err_from_is_err_and c.from_residual-in_err-children.result c.from_residual-in_err-children.ensures.1 in
    let start = begin g.D.Decoder.reader _ (all_components node_components) v rest outer can of_type valid ends at in
    let label = step start c.in_ok-label.ensures.keeps_depth.same_depth (λ can of_type valid apart at. c.in_ok-label.ensures.read (out-Node v).label (Some (codes "UTF8String")) _ outer can of_type valid (λ _. apart) at) in
    rw (p.1, p.2) (stops label.next (λ can of_type valid apart at. c.in_err-children.ensures.read (out-Node v).children.items (Some (codes "SEQUENCE_OF")) _ outer node_can of_type valid at))

pub read_components-returns-clause-read : goal.read_components-returns-clause-read
read_components-returns-clause-read g t c = λ v rest outer can of_type valid ends at.
    let start = begin g.D.Decoder.reader _ (all_components node_components) v rest outer can of_type valid ends at in
    let label = step start c.in_ok-label.ensures.keeps_depth.same_depth (λ can of_type valid apart at. c.in_ok-label.ensures.read (out-Node v).label (Some (codes "UTF8String")) _ outer can of_type valid (λ _. apart) at) in
    let children = step label.next c.in_ok-children.ensures.same_depth (λ can of_type valid apart at. c.in_ok-children.ensures.read (out-Node v).children.items (Some (codes "SEQUENCE_OF")) _ outer node_can of_type valid at) in
    let o = out-roll-Node record { label = c.in_ok-label.label; children = c.in_ok-children.children } in
    through children.next (same_nodes _ v (rw o label.answer) (rw o children.answer))

pub read_components-returns-clause-only : goal.read_components-returns-clause-only
read_components-returns-clause-only g t c =
    let o = out-roll-Node record { label = c.in_ok-label.label; children = c.in_ok-children.children } in
    both_were_read g.D.Decoder.reader c.args.decoder.now c.decode_optional.new.self c.read_children.new.decoder _ _ _
    (λ rs ss label children. rw o (rs, ss, label, (ss, [], children, refl, sym (append-nil ss)), refl)) c.in_ok-label.ensures.only c.in_ok-children.ensures.only

pub read_nodes-loop-index-init : goal.read_nodes-loop-index-init
read_nodes-loop-index-init g t c = none_read g.D.Decoder.reader node_meaning ghosts.eq _ _ c.new-nodes.ensures.items

pub read_nodes-loop-index-preserved : goal.read_nodes-loop-index-preserved
read_nodes-loop-index-preserved g t c =
    one_more_read g.D.Decoder.reader node_meaning ghosts.eq _ c.read_node.new.decoder c.in_ok-node.node _ c.loop-index.invariant c.in_ok-more.ensures.read c.in_ok-more.ensures.only c.if-not-branch.false c.in_ok-more.ensures.opens_nothing.keeps_depth.same_depth
    c.in_ok-node.ensures.read c.in_ok-node.ensures.only c.in_ok-node.ensures.after_reading.same_depth c.in-Ok.ensures.items

pub read_nodes-returns-in_err-more-clause-read : goal.read_nodes-returns-in_err-more-clause-read
read_nodes-returns-in_err-more-clause-read g t c =
    let p = err_from_is_err_and c.from_residual.result c.from_residual.ensures.1 in
    rw (p.1, p.2) (more_not_told g.D.Decoder.reader node_meaning ghosts.eq (λ (nodes : Vec Node). nodes.items) c.loop-index.invariant c.args.bound _ c.in_err-more.ensures.read)

pub read_nodes-returns-then-not-branch-clause-read : goal.read_nodes-returns-then-not-branch-clause-read
read_nodes-returns-then-not-branch-clause-read g t c =
    all_read g.D.Decoder.reader node_meaning ghosts.eq (λ (nodes : Vec Node). nodes.items) c.loop-index.invariant c.args.bound _ c.loop-index.nodes refl c.in_ok-more.ensures.read c.if-not-branch.true c.in_ok-more.ensures.opens_nothing.keeps_depth.same_depth

pub read_nodes-returns-in_err-node-clause-read : goal.read_nodes-returns-in_err-node-clause-read
read_nodes-returns-in_err-node-clause-read g t c =
    let p = err_from_is_err_and c.from_residual-in_err-node.result c.from_residual-in_err-node.ensures.1 in
    rw (p.1, p.2) (element_not_read g.D.Decoder.reader node_meaning ghosts.eq (λ (nodes : Vec Node). nodes.items) c.loop-index.invariant c.args.bound _ c.read_node.new.decoder c.in_ok-more.ensures.read c.if-not-branch.false c.in_ok-more.ensures.opens_nothing.keeps_depth.same_depth c.in_err-node.ensures.read)

pub read_nodes-returns-clause-read : goal.read_nodes-returns-clause-read
read_nodes-returns-clause-read g t c =
    filled_up g.D.Decoder.reader node_meaning ghosts.eq (λ (nodes : Vec Node). nodes.items) c.loop-index.invariant c.args.bound c.loop-index.nodes refl (omega (arith, c.loop-index-test.false, c.loop-index.auto._index-end))

pub read_children-returns-clause-read : goal.read_children-returns-clause-read
read_children-returns-clause-read g t c =
    c.close_sequence_of.ensures.read (universal 16) unconstrained c.args.decoder.now _ c.in_ok-bound.bound c.in_ok-bound.ensures.opened c.read_nodes-children.ensures.read

pub read_children-returns-clause-same_depth : goal.read_children-returns-clause-same_depth
read_children-returns-clause-same_depth g t c =
    c.close_sequence_of.ensures.same_depth (universal 16) unconstrained c.args.decoder.now _ c.in_ok-bound.bound c.in_ok-bound.ensures.opened c.read_nodes-children.ensures.same_depth

pub read_node-returns-in_err-open_sequence_at-clause-read : goal.read_node-returns-in_err-open_sequence_at-clause-read
read_node-returns-in_err-open_sequence_at-clause-read g t c =
    let p = err_from_is_err_and c.from_residual.result c.from_residual.ensures.1 in
    rw (p.1, p.2) (c.in_err-open_sequence_at.ensures.not_read (constraint_set c.args._constraints.now))

pub read_node-returns-in_err-open_sequence_at-clause-after_reading : goal.read_node-returns-in_err-open_sequence_at-clause-after_reading
read_node-returns-in_err-open_sequence_at-clause-after_reading g t c =
    let p = err_from_is_err_and c.from_residual.result c.from_residual.ensures.1 in
    rw (p.1, p.2) (c.in_err-open_sequence_at.ensures.after_reading (constraint_set c.args._constraints.now))

pub read_node-returns-clause-read : goal.read_node-returns-clause-read
read_node-returns-clause-read g t c =
    c.close_sequence.ensures.read (constraint_set c.args._constraints.now) c.args.decoder.now _ c.in_ok-open_sequence_at.ensures.opened c.read_components-node.ensures.read

pub read_node-returns-clause-after_reading : goal.read_node-returns-clause-after_reading
read_node-returns-clause-after_reading g t c =
    c.close_sequence.ensures.after_reading (constraint_set c.args._constraints.now) c.args.decoder.now _ c.in_ok-open_sequence_at.ensures.opened c.read_components-node.ensures.same_depth

pub read_nodes-returns-then-not-branch-clause-only : goal.read_nodes-returns-then-not-branch-clause-only
read_nodes-returns-then-not-branch-clause-only g t c =
    all_read_exactly g.D.Decoder.reader node_meaning ghosts.eq (λ (nodes : Vec Node). nodes.items) c.loop-index.invariant c.args.bound _ c.loop-index.nodes refl c.in_ok-more.ensures.only

pub read_nodes-returns-clause-only : goal.read_nodes-returns-clause-only
read_nodes-returns-clause-only g t c = c.loop-index.invariant.exactly

pub read_children-returns-clause-only : goal.read_children-returns-clause-only
read_children-returns-clause-only g t c =
    c.close_sequence_of.ensures.only (universal 16) unconstrained c.args.decoder.now _ c.in_ok-bound.ensures.only c.read_nodes-children.ensures.only

pub read_node-returns-clause-only : goal.read_node-returns-clause-only
read_node-returns-clause-only g t c =
    c.close_sequence.ensures.only (constraint_set c.args._constraints.now) c.args.decoder.now _ c.in_ok-open_sequence_at.ensures.only c.read_components-node.ensures.only
