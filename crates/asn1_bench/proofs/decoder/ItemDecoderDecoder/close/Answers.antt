use Rattle.asn1_bench.proofs.RemainingItems.{is_form}
use Rattle.asn1_items.proofs.DecodeStates.{scope_closed}
use Rattle.asn1_bench.proofs.ReadItems.{closed}
use Rattle.asn1_bench.proofs.decoder.ItemDecoderDecoder.close.Goals as goal

pub returns-clause-read : goal.returns-clause-read
returns-clause-read g c =
    let closed = c.close.ensures in
    scope_closed (is_form g.P.Presence.mark_bytes) (λ d. d.state) c.args.self.now _ c.close.result closed.closed closed.no_failure closed.not_closed

pub returns-clause-only : goal.returns-clause-only
returns-clause-only g c = closed g.P.Presence.mark_bytes c.args.self.now _ c.close.result c.close.ensures.failed_before c.close.ensures.closed
