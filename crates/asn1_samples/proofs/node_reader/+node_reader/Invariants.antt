use Rattle.std.proofs.Common.{◌+◌, ◌*◌}
use Rattle.asn1_nesting.proofs.ListsRead.{ListRead}
use Rattle.asn1_samples.specs.NodeComponents.{node_meaning}
use Rattle.asn1_samples.specs.contracts.node.NodePartialEq.TheImpl.{ghosts}
use Rattle.asn1_samples.proofs.node_reader.+node_reader.Given as goal

abbrev pub decreases-read_node : goal.decreases-read_node
decreases-read_node g l = 2 * g.D.Decoder.reader.depth_left l.decoder.now

abbrev pub decreases-read_components : goal.decreases-read_components
decreases-read_components g l = 2 * g.D.Decoder.reader.depth_left l.decoder.now + 1

abbrev pub decreases-read_children : goal.decreases-read_children
decreases-read_children g l = 2 * g.D.Decoder.reader.depth_left l.decoder.now

abbrev pub decreases-read_nodes : goal.decreases-read_nodes
decreases-read_nodes g l = 2 * g.D.Decoder.reader.depth_left l.decoder.now + 1

abbrev pub invariant-read_nodes-loop-index : goal.invariant-read_nodes-loop-index
invariant-read_nodes-loop-index g l = ListRead g.D.Decoder.reader node_meaning ghosts.eq l.fn.decoder l.decoder l.nodes.items l._index
