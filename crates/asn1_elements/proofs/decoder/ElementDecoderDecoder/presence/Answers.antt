use Rattle.asn1_model.specs.Records.{absent, in_root, present}
use Rattle.asn1_elements.proofs.decoder.ElementDecoderDecoder.presence.Goals as goal

pub returns-clause-only : goal.returns-clause-only
returns-clause-only g c = c.tell_presence.ensures.only (present in_root c.args._tag) (absent in_root c.args._tag)
