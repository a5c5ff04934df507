use Rattle.std.proofs.Common.{◌∙◌, ap, arith, sym}
use Rattle.asn1_certificate_reader.specs.Alphabets.{fault_sought}
use Rattle.asn1_certificate_reader.specs.NameFaults.{HasNoFault}
use Rattle.asn1_certificate_reader.proofs.NameFaults.{all_seen, one_more}
use Rattle.asn1_certificate_reader.proofs.name_faults.first_in_part.Goals as goal

pub loop-index-preserved : goal.loop-index-preserved
loop-index-preserved c =
    one_more (HasNoFault (fault_sought c.args.sought)) c.args.attributes.now c.loop-index.index c.index-attributes-index.result
    c.loop-index-test.true c.index-attributes-index.is c.loop-index.invariant
    (ap (fault_sought c.args.sought) (sym c.as_bytes.ensures) ∙ sym c.in_default.ensures)

pub returns : goal.returns
returns c =
    all_seen (HasNoFault (fault_sought c.args.sought)) c.args.attributes.now c.loop-index.index (omega (arith, c.loop-index-test.false)) c.loop-index.invariant
