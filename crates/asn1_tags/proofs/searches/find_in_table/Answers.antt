use Rattle.std.proofs.Common.{sym, ◌∙◌, subst, arith}
use Rattle.asn1_tags.proofs.Searching.{Searched, room_for_one, search_less, search_equal, search_greater, search_ends}
use Rattle.asn1_tags.proofs.searches.find_in_table.Goals as goal

pub compare-requires : goal.compare-requires
compare-requires c =
    room_for_one c.args.tag.now c.args.table.now c.loop-start.start c.loop-start.end c.loop-start.found c.loop-start.meter.comparisons c.loop-start.invariant c.loop-start-test.true

pub loop-start-preserved-in-Less : goal.loop-start-preserved-in-Less
loop-start-preserved-in-Less c =
    subst (Searched c.args.tag.now c.args.table.now _ c.loop-start.end c.loop-start.found) (sym c.compare.ensures.counted)
    (search_less c.args.tag.now c.args.table.now c.loop-start.start c.loop-start.end c.loop-start.found c.loop-start.meter.comparisons _ c.requires c.loop-start.invariant c.loop-start-test.true (sym c.compare.ensures.order ∙ c.in-Less.is))

pub loop-start-preserved-in-Equal : goal.loop-start-preserved-in-Equal
loop-start-preserved-in-Equal c =
    subst (Searched c.args.tag.now c.args.table.now c.loop-start.start _ _) (sym c.compare.ensures.counted)
    (search_equal c.args.tag.now c.args.table.now c.loop-start.start c.loop-start.end c.loop-start.found c.loop-start.meter.comparisons _ c.loop-start.invariant c.loop-start-test.true (sym c.compare.ensures.order ∙ c.in-Equal.is))

pub loop-start-preserved : goal.loop-start-preserved
loop-start-preserved c =
    subst (Searched c.args.tag.now c.args.table.now c.loop-start.start _ c.loop-start.found) (sym c.compare.ensures.counted)
    (search_greater c.args.tag.now c.args.table.now c.loop-start.start c.loop-start.end c.loop-start.found c.loop-start.meter.comparisons _ c.requires c.loop-start.invariant c.loop-start-test.true (sym c.compare.ensures.order ∙ c.in-Greater.is))

pub returns-clause-index : goal.returns-clause-index
returns-clause-index c =
    search_ends c.args.tag.now c.args.table.now c.loop-start.start c.loop-start.end c.loop-start.found c.loop-start.meter.comparisons c.loop-start.invariant
    (omega (arith, c.loop-start-test.false)) (c.args.tag.now, 0)
