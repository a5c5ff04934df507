use Rattle.std.proofs.Common.{◌∙◌, arith, subst}
use Rattle.std.specs.List.{All}
use Rattle.asn1_certificate_reader.specs.Alphabets.{fault_sought}
use Rattle.asn1_certificate_reader.specs.NameFaults.{HasNoFault}
use Rattle.asn1_certificate_reader.proofs.NameFaults.{all_seen, one_more}
use Rattle.asn1_certificate_reader.proofs.name_faults.first_in_parts.Goals as goal

pub loop-part-preserved : goal.loop-part-preserved
loop-part-preserved c =
    one_more (All (HasNoFault (fault_sought c.args.sought))) c.args.parts.now c.loop-part.part c.index-parts-part.result
    c.loop-part-test.true c.index-parts-part.is c.loop-part.invariant
    (subst (All (HasNoFault (fault_sought c.args.sought))) (c.as_slice.ensures.value ∙ c.iter.ensures.rest) c.in_default.ensures)

pub returns : goal.returns
returns c =
    all_seen (All (HasNoFault (fault_sought c.args.sought))) c.args.parts.now c.loop-part.part (omega (arith, c.loop-part-test.false)) c.loop-part.invariant
