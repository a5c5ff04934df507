use Rattle.asn1_elements.specs.Decoder.{element_reader}
use Rattle.asn1_elements.proofs.ReadExactly.{all_read_as_answered}
use Rattle.std.proofs.Common.{refl}
use Rattle.asn1_model.specs.ConstraintSets.{unconstrained}
use Rattle.asn1_model.specs.Records.{arcs}
use Rattle.asn1_elements.proofs.decoder.ElementDecoderDecoder.decode_object_identifier.Goals as goal

pub returns-clause-read : goal.returns-clause-read
returns-clause-read g c = λ x n rest outer of_type. c.scalar.ensures.read arcs (λ x. record { kind = refl; octets = λ own p. p }) unconstrained x n rest outer tt

pub returns-clause-only : goal.returns-clause-only
returns-clause-only g c = all_read_as_answered (element_reader g.F.ElementForm.form) c.args.tag c.args.self.now c.scalar.new.self arcs arcs unconstrained c.scalar.result (λ x. record { kind = refl; octets = λ own p. p }) c.scalar.ensures.carried
