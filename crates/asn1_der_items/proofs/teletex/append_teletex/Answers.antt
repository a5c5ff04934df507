use Rattle.std.proofs.Common.{◌<◌, rules}
use Rattle.std.proofs.lemmas.List.Elements.{All-more}
use Rattle.asn1_der_items.proofs.WritingArcs.{next_unit}
use Rattle.asn1_der_items.proofs.teletex.append_teletex.Goals as goal

pub loop-unit-preserved : goal.loop-unit-preserved
loop-unit-preserved c = record {
  appended = next_unit c.args.units.now c.loop-unit.unit-index _ _ _ _ c.loop-unit-test.true (search rules) c.loop-unit.invariant.appended c.in_ok-extend_from_slice.ensures.items;
  narrow = All-more (λ unit. unit < 256) c.args.units.now c.loop-unit.unit-index 0 c.loop-unit-test.true c.loop-unit.invariant.narrow (search rules);
}
