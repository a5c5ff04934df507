use Rattle.asn1_ber_items.proofs.NormalForms.{one_normal_form}
use Rattle.asn1_ber_items.proofs.laws.normal_forms_are_unique.Goals as goal

pub returns : goal.returns
returns c = one_normal_form
