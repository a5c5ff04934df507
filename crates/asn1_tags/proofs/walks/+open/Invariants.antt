use Rattle.std.proofs.Common.{◌≡◌, false, take}
use Rattle.asn1_tags.specs.Trees.{is_any_open, shapes}
use Rattle.asn1_tags.proofs.walks.+open.Given as goal

-- no choice of nothing is in the trees so far
abbrev pub invariant-have_empty_choice-loop-node : goal.invariant-have_empty_choice-loop-node
invariant-have_empty_choice-loop-node l = is_any_open (shapes (take l.node-index l.nodes)) ≡ false
