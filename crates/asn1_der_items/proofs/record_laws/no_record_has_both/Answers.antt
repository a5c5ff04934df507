use Rattle.asn1_der_items.proofs.NotBoth.{has_some}
use Rattle.asn1_der_items.proofs.record_laws.no_record_has_both.Goals as goal

pub returns : goal.returns
returns c = has_some
