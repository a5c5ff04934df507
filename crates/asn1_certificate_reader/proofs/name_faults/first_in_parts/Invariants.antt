use Rattle.std.proofs.Common.{take}
use Rattle.std.specs.List.{All}
use Rattle.asn1_certificate_reader.specs.Alphabets.{fault_sought}
use Rattle.asn1_certificate_reader.specs.NameFaults.{HasNoFault}
use Rattle.asn1_certificate_reader.proofs.name_faults.first_in_parts.Given as goal

abbrev pub invariant-loop-part : goal.invariant-loop-part
invariant-loop-part l = All (All (HasNoFault (fault_sought l.sought))) (take l.part l.parts)
