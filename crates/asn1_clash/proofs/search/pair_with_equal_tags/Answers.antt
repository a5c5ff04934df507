use Rattle.asn1_clash.proofs.Occurrences.{no_neighbours, neighbours_passed, neighbours_end, twice_from_neighbours}
use Rattle.asn1_clash.proofs.search.pair_with_equal_tags.Goals as goal

pub loop-i-init : goal.loop-i-init
loop-i-init c = no_neighbours c.args.all.now

pub loop-i-preserved : goal.loop-i-preserved
loop-i-preserved c =
    neighbours_passed c.args.all.now c.loop-i.i _ _ c.loop-i.least c.lesser_pair-least.result c.pair_of.result c.loop-i.auto.i c.loop-i-test.true c.pair_of.ensures c.lesser_pair-least.ensures c.loop-i.invariant

pub returns : goal.returns
returns c = twice_from_neighbours c.args.all.now c.requires c.loop-i.least (neighbours_end c.args.all.now c.loop-i.i c.loop-i.least c.loop-i-test.false c.loop-i.invariant)
