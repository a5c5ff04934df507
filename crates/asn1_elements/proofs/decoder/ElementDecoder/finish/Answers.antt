use Rattle.asn1_elements.proofs.RemainingElements.{is_form}
use Rattle.asn1_items.proofs.DecodeStates.{all_is_read, nothing_is_left}
use Rattle.asn1_elements.proofs.decoder.ElementDecoder.finish.Goals as goal

pub returns-clause-all_read : goal.returns-clause-all_read
returns-clause-all_read g c =
    (λ e. all_is_read (is_form g.met.F.ElementForm.lawful) (λ d. d.state) c.args.self (c.finish.ensures.all_read.0 e), λ at. c.finish.ensures.all_read.1 (nothing_is_left (is_form g.met.F.ElementForm.lawful) (λ d. d.state) c.args.self at))
