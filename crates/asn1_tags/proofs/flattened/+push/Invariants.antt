use Rattle.std.proofs.Common.{◌≡◌, ◌++◌, take}
use Rattle.asn1_tags.specs.Trees.{leaves_of, shapes}
use Rattle.asn1_tags.proofs.flattened.+push.Given as goal

-- the leaves of the trees so far are pushed
abbrev pub invariant-push_all-loop-node : goal.invariant-push_all-loop-node
invariant-push_all-loop-node l = l.tags.items ≡ l.initial.tags.items ++ leaves_of (shapes (take l.node-index l.nodes))
