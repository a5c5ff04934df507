use Rattle.asn1_open.proofs.open_value.+open_type.Goals as goal

pub OpenEncodeChoice::encode_alternative-returns-in-InstanceOf : goal.OpenEncodeChoice::encode_alternative-returns-in-InstanceOf
OpenEncodeChoice::encode_alternative-returns-in-InstanceOf g t c = rw c.in-InstanceOf.is c.encode-in-InstanceOf.ensures
