use Rattle.std.proofs.Common.{take}
use Rattle.std.specs.List.{All}
use Rattle.asn1_certificate_reader.specs.Alphabets.{fault_sought}
use Rattle.asn1_certificate_reader.specs.NameFaults.{HasNoFault}
use Rattle.asn1_certificate_reader.proofs.name_faults.first_in_part.Given as goal

abbrev pub invariant-loop-index : goal.invariant-loop-index
invariant-loop-index l = All (HasNoFault (fault_sought l.sought)) (take l.index l.attributes)
