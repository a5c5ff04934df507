use Rattle.asn1_values.proofs.TrailingZeros.{ends}
use Rattle.asn1_elements.proofs.laws.named_bits_are_read_without_zeros.Goals as goal

pub returns : goal.returns
returns g c = λ list n rest outer _ at. c.decode_string.ensures.spelled list n rest outer (ends list) at
