use Rattle.asn1_ber_items.proofs.NormalForms.{spells-append}
use Rattle.asn1_ber_items.proofs.laws.trailing_bytes_stay.Goals as goal

pub returns : goal.returns
returns c = spells-append
