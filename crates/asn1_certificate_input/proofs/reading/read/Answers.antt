use Rattle.std.proofs.Common.{subst, sym}
use Rattle.std.proofs.lemmas.Result.{IfOk-weaker}
use Rattle.asn1_certificate_input.proofs.Readings.{not_written, written_otherwise}
use Rattle.asn1_certificate_input.specs.Departures.{AnswersDifference}
use Rattle.asn1_certificate_input.proofs.reading.read.Goals as goal

pub returns-in-Err-NotCanonical-clause-difference : goal.returns-in-Err-NotCanonical-clause-difference
returns-in-Err-NotCanonical-clause-difference c =
    IfOk-weaker c.read_again.result _ _
    (λ read is. subst (AnswersDifference c.args.octets.now.items read.certificate) (sym is)
    (written_otherwise c.args.octets.now c.certificate_is_well_tagged.ensures _ c.in-Err-NotCanonical.field-0 c.in-Err-NotCanonical.at c.in-Err-NotCanonical.field-0-is c.in-Err-NotCanonical.ensures.departs))
    c.read_again.ensures.difference

pub returns-in-Err-Write : goal.returns-in-Err-Write
returns-in-Err-Write c = record {
  read = c.read_again-in-Err-Write.ensures.read;
  difference =
      IfOk-weaker c.read_again-in-Err-Write.result _ _
      (λ read is. subst (AnswersDifference c.args.octets.now.items read.certificate) (sym is)
      (not_written c.args.octets.now c.certificate_is_well_tagged.ensures _ c.in-Err-Write.field-0 c.in-Err-Write.error c.in-Err-Write.field-0-is c.in-Err-Write.ensures.departs))
      c.read_again-in-Err-Write.ensures.difference;
  refused = c.read_again-in-Err-Write.ensures.refused;
}
