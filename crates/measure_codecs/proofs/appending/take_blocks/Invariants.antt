use Rattle.std.proofs.Common.{◌-◌}
use Rattle.measure_codecs.proofs.appending.take_blocks.Given as goal

abbrev pub decreases-loop-blocks : goal.decreases-loop-blocks
decreases-loop-blocks l = l.most - l.blocks
