use Rattle.asn1_strings.proofs.DottedTexts.{arcs_of-dotted}
use Rattle.asn1_strings.proofs.laws.object_identifiers_are_read_as_they_are_written.Goals as goal

pub returns-clause-back : goal.returns-clause-back
returns-clause-back c = arcs_of-dotted
