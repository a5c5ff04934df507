use Rattle.std.proofs.Common.{◌+◌, ◌*◌, length}
use Rattle.fan_calls.specs.Depths.{NestsDeeper}
use Rattle.fan_calls.proofs.depth.+depths.Given as goal

abbrev pub decreases-nests_deeper : goal.decreases-nests_deeper
decreases-nests_deeper l = 2 * l.depth + 1

abbrev pub decreases-holds_deeper : goal.decreases-holds_deeper
decreases-holds_deeper l = 2 * l.depth

abbrev pub invariant-nests_deeper-loop-element : goal.invariant-nests_deeper-loop-element
invariant-nests_deeper-loop-element l = record {
  found : NestsDeeper l.depth l.left → NestsDeeper l.depth l.bytes;
  ahead : NestsDeeper l.depth l.bytes → NestsDeeper l.depth l.left;
}

abbrev pub decreases-nests_deeper-loop-element : goal.decreases-nests_deeper-loop-element
decreases-nests_deeper-loop-element l = length l.left
