use Rattle.asn1_der_items.proofs.Canonical.{same_der}
use Rattle.asn1_der_items.proofs.record_laws.der_is_canonical.Goals as goal

pub returns : goal.returns
returns c = same_der
