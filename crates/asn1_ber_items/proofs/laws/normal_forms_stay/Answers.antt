use Rattle.asn1_ber_items.proofs.NormalForms.{spells_itself}
use Rattle.asn1_ber_items.proofs.laws.normal_forms_stay.Goals as goal

pub returns : goal.returns
returns c = spells_itself
