use Rattle.asn1_ber.proofs.Written.{all_plain, have_ber}
use Rattle.asn1_model.specs.Records.{held}
use Rattle.asn1_ber.proofs.laws.der_is_ber.Goals as goal

pub returns : goal.returns
returns c = λ rs octets plain der. record { normal = octets; spell = all_plain (held rs) octets plain der; have = have_ber (held rs) octets der }
