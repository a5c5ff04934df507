use Rattle.asn1_elements.proofs.ReadExactly.{one_mark_taken}
use Rattle.std.proofs.Common.{Ok, refl, arith}
use Rattle.asn1_laws.proofs.ReadingUpToOrder.{reads_mark}
use Rattle.asn1_elements.specs.Decoder.{in_one_order}
use Rattle.asn1_elements.proofs.RemainingElements.{past_mark}
use Rattle.asn1_model.specs.Records.{group_end}
use Rattle.asn1_elements.proofs.decoder.ElementDecoderDecoder.close_group.Goals as goal

pub returns-clause-read : goal.returns-clause-read
returns-clause-read g c =
    reads_mark (in_one_order g.F.ElementForm.form) c.args.self.now c.args.self.now group_end (Ok (tt {0}))
    (λ rest outer at. record { answer = tt; at = past_mark g.met.F.ElementForm.lawful c.args.self.now.state c.args.self.now.state group_end rest outer c.if-self.false refl at; within_depth_left = omega arith })

pub returns-clause-only : goal.returns-clause-only
returns-clause-only g c = one_mark_taken g.met.F.ElementForm.lawful c.args.self.now c.args.self.now group_end c.if-self.false refl
