use Rattle.asn1_der_items.proofs.OneEncoding.{one_der}
use Rattle.asn1_der_items.proofs.record_laws.der_is_unique.Goals as goal

pub returns : goal.returns
returns c = one_der
