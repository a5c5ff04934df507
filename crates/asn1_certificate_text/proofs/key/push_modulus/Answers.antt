use Rattle.asn1_certificate_text.proofs.Appending.{further}
use Rattle.asn1_certificate_text.proofs.key.push_modulus.Goals as goal

pub returns : goal.returns
returns c = further _ _ _ _ _ _ c.in_ok-write.ensures.bytes c.write-2.ensures.bytes
