use Rattle.asn1_bench.proofs.RemainingItems.{is_form}
use Rattle.asn1_items.proofs.DecodeStates.{more_is_decided}
use Rattle.asn1_bench.proofs.ReadItems.{as_it_was}
use Rattle.asn1_bench.proofs.decoder.ItemDecoderDecoder.more.Goals as goal

pub returns-clause-read : goal.returns-clause-read
returns-clause-read g c = more_is_decided (is_form g.P.Presence.mark_bytes) (λ d. d.state) c.args.self.now c.more.result c.more.ensures.decided c.more.ensures.has_failed

pub returns-clause-only : goal.returns-clause-only
returns-clause-only g c = as_it_was g.P.Presence.mark_bytes c.args.self.now c.more.result
