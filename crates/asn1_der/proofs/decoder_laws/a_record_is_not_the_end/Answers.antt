use Rattle.asn1_elements.proofs.RemainingElements.{not_at_end}
use Rattle.asn1_der.specs.Decoder.{der_is_lawful_form}
use Rattle.asn1_der.proofs.decoder_laws.a_record_is_not_the_end.Goals as goal

pub returns : goal.returns
returns c = λ r rest no_mark. not_at_end der_is_lawful_form c.args.decoder.now r rest no_mark
