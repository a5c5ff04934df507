use Rattle.asn1_der_items.proofs.SomeDer.{der_or_none}
use Rattle.asn1_der_items.proofs.record_laws.a_record_has_der_or_none.Goals as goal

pub returns : goal.returns
returns c = der_or_none
