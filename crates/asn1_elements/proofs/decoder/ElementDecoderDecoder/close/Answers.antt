use Rattle.asn1_elements.proofs.ReadExactly.{closed_exactly}
use Rattle.asn1_elements.proofs.RemainingElements.{is_form}
use Rattle.asn1_items.proofs.DecodeStates.{scope_closed}
use Rattle.asn1_elements.proofs.decoder.ElementDecoderDecoder.close.Goals as goal

pub returns-clause-read : goal.returns-clause-read
returns-clause-read g c =
    let closed = c.close.ensures in
    scope_closed (is_form g.met.F.ElementForm.lawful) (λ d. d.state) c.args.self.now _ c.close.result closed.closed closed.no_failure closed.not_closed

pub returns-clause-only : goal.returns-clause-only
returns-clause-only g c = closed_exactly g.met.F.ElementForm.lawful c.args.self.now _ c.close.result c.close.ensures.closed c.close.ensures.failed_before
