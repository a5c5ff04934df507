use Rattle.asn1_model.specs.Records.{absent, in_additions, present}
use Rattle.asn1_elements.proofs.decoder.ElementDecoderDecoder.addition_presence.Goals as goal

pub returns-clause-only : goal.returns-clause-only
returns-clause-only g c = c.tell_presence.ensures.only (present in_additions c.args._tag) (absent in_additions c.args._tag)
