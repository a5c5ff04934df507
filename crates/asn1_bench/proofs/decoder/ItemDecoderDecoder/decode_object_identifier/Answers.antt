use Rattle.std.proofs.Common.{refl}
use Rattle.asn1_model.specs.ConstraintSets.{unconstrained}
use Rattle.asn1_model.specs.Records.{arcs}
use Rattle.std.proofs.lemmas.Result.{IfOk-weaker}
use Rattle.asn1_bench.proofs.ReadItems.{as_answered}
use Rattle.asn1_bench.specs.Decoder.{item_reader}
use Rattle.asn1_bench.proofs.decoder.ItemDecoderDecoder.decode_object_identifier.Goals as goal

pub returns-clause-read : goal.returns-clause-read
returns-clause-read g c = λ x n rest outer of_type. c.scalar.ensures.read arcs (λ x. record { kind = refl; bytes = λ own p. p }) unconstrained x n rest outer tt

pub returns-clause-only : goal.returns-clause-only
returns-clause-only g c = IfOk-weaker c.scalar.result _ _ (as_answered (item_reader g.P.Presence.mark_bytes) c.args.tag arcs c.args.self.now _ unconstrained) c.scalar.ensures.only
