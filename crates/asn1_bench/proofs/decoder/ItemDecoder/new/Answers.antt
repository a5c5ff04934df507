use Rattle.std.proofs.Common.{subst}
use Rattle.asn1_bench.proofs.Forms.{carried_is_read, read_is_carried}
use Rattle.asn1_bench.proofs.RemainingItems.{is_form}
use Rattle.asn1_items.proofs.DecodeStates.{begins}
use Rattle.asn1_items.specs.Items.{HaveBytes, read_with}
use Rattle.asn1_model.specs.Records.{held}
use Rattle.asn1_bench.proofs.decoder.ItemDecoder.new.Goals as goal

pub returns-clause-before : goal.returns-clause-before
returns-clause-before g c = λ rs carried well.
    let marks = g.P.Presence.mark_bytes in
    let begun = c.new.ensures in
    begins (is_form marks) (λ d. d.state) _ c.args.bytes.now carried.exactly rs begun.no_failure begun.inside begun.outside (carried_is_read marks c.args.bytes.now rs carried well) carried.same

pub returns-clause-only : goal.returns-clause-only
returns-clause-only g c = λ rs at.
    let marks = g.P.Presence.mark_bytes in
    read_is_carried marks c.args.bytes.now at.exactly.0 rs (subst (HaveBytes (read_with marks) (held at.exactly.0)) c.new.ensures.inside at.remains.inside) at.same.here
