use Rattle.asn1_bench.proofs.RemainingItems.{is_form}
use Rattle.asn1_items.proofs.DecodeStates.{all_is_read, nothing_is_left}
use Rattle.asn1_bench.proofs.decoder.ItemDecoder.finish.Goals as goal

pub returns-clause-all_read : goal.returns-clause-all_read
returns-clause-all_read g c =
    let form = is_form g.P.Presence.mark_bytes in
    (λ e. all_is_read form (λ d. d.state) c.args.self (c.finish.ensures.all_read.0 e), λ at. c.finish.ensures.all_read.1 (nothing_is_left form (λ d. d.state) c.args.self at))
