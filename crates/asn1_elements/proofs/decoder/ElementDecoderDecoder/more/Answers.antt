use Rattle.asn1_laws.proofs.ReadingExactly.{nothing_read}
use Rattle.asn1_elements.specs.Decoder.{element_reader}
use Rattle.asn1_elements.proofs.ReadExactly.{on_ok}
use Rattle.asn1_elements.proofs.RemainingElements.{is_form}
use Rattle.asn1_items.proofs.DecodeStates.{more_is_decided}
use Rattle.asn1_elements.proofs.decoder.ElementDecoderDecoder.more.Goals as goal

pub returns-clause-read : goal.returns-clause-read
returns-clause-read g c = more_is_decided (is_form g.met.F.ElementForm.lawful) (λ d. d.state) c.args.self.now c.more.result c.more.ensures.decided c.more.ensures.has_failed

pub returns-clause-only : goal.returns-clause-only
returns-clause-only g c = on_ok _ c.more.result (nothing_read (element_reader g.F.ElementForm.form) c.args.self.now)
