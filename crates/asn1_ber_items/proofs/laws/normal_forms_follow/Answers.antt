use Rattle.asn1_ber_items.proofs.NormalForms.{spells-in_front}
use Rattle.asn1_ber_items.proofs.laws.normal_forms_follow.Goals as goal

pub returns : goal.returns
returns c = spells-in_front
