use Rattle.asn1_der.proofs.OneOutput.{not_rejected}
use Rattle.asn1_der.proofs.canonical.records_with_an_output_are_not_rejected.Goals as goal

pub returns : goal.returns
returns c = not_rejected
