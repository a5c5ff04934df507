use Rattle.asn1_buffers.proofs.EncodersOverBuffers.{string_unlabelled}
use Rattle.asn1_model.specs.ConstraintSets.{constraint_set}
use Rattle.asn1_buffers.proofs.encoder.BufferEncoderEncoder.encode_string.Goals as goal

pub returns : goal.returns
returns g c = c.append_scalar.ensures (constraint_set c.args._constraints.now) _ (g.K.StringType.content c.args.value.now) (string_unlabelled _ _ c.as_any.ensures)
