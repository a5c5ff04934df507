use Rattle.asn1_enc.proofs.impls.instance_of.InstanceOfEncodeFields.encode_field.Goals as goal

pub returns-in-1 : goal.returns-in-1
returns-in-1 g c = rw c.in-1.is c.encode_explicit_prefix.ensures.writes
