use Rattle.std.proofs.Common.{Ok, Err}
use Rattle.std.specs.Prelude.{⊤}
use Rattle.asn1_laws.proofs.ReadingUpToOrder.{reads_mark}
use Rattle.asn1_model.specs.Records.{group_end}
use Rattle.asn1_bench.proofs.RemainingItems.{mark_passed, mark_not_passed}
use Rattle.asn1_bench.specs.Decoder.{in_one_order}
use Rattle.asn1_bench.proofs.ReadItems.{mark_taken}
use Rattle.asn1_bench.proofs.decoder.ItemDecoderDecoder.close_group.Goals as goal

pub returns-in-Ok-clause-read : goal.returns-in-Ok-clause-read
returns-in-Ok-clause-read g c =
    let marks = g.P.Presence.mark_bytes in
    reads_mark (in_one_order marks) c.args.self.now _ group_end (Ok (tt {0}))
    (λ rest outer. mark_passed marks c.args.self.now _ group_end rest outer (λ _. ⊤) (tt {0}) c.if-state.false c.in-Ok.ensures.keeps_outside (c.in-Ok.ensures.passed rest))

pub returns-in-Err-clause-read : goal.returns-in-Err-clause-read
returns-in-Err-clause-read g c =
    let marks = g.P.Presence.mark_bytes in
    reads_mark (in_one_order marks) {V = ⊤} c.args.self.now c.args.self.now group_end (Err c.fail_with.result)
    (λ rest outer. mark_not_passed marks {V = ⊤} c.args.self.now c.args.self.now group_end rest outer (λ _. ⊤) c.in-Err.error c.fail_with.result (c.in-Err.ensures.passed rest))

pub returns-in-Ok-clause-only : goal.returns-in-Ok-clause-only
returns-in-Ok-clause-only g c = mark_taken g.P.Presence.mark_bytes c.args.self.now _ c.if-state.false group_end c.in-Ok.ensures.keeps_outside c.in-Ok.ensures.only
