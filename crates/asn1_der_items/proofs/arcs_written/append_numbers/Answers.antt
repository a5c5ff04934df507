use Rattle.asn1_der_items.proofs.WritingArcs.{next_number}
use Rattle.asn1_der_items.proofs.arcs_written.append_numbers.Goals as goal

pub loop-number-preserved : goal.loop-number-preserved
loop-number-preserved c = next_number c.args.numbers.now c.loop-number.number-index _ _ _ _ c.loop-number-test.true c.from.ensures c.loop-number.invariant c.in_ok-append_base128.ensures
