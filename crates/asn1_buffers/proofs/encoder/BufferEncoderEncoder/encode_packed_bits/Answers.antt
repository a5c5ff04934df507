use Rattle.std.proofs.Common.{refl}
use Rattle.asn1_model.specs.ConstraintSets.{constraint_set}
use Rattle.asn1_model.specs.Records.{bits}
use Rattle.asn1_buffers.proofs.encoder.BufferEncoderEncoder.encode_packed_bits.Goals as goal

pub returns : goal.returns
returns g c = c.append_scalar.ensures (constraint_set c.args._constraints.now) _ (bits c.args.value.now) refl
