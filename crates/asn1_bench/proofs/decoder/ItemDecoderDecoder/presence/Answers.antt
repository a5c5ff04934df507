use Rattle.asn1_model.specs.Records.{in_root}
use Rattle.asn1_bench.proofs.decoder.ItemDecoderDecoder.presence.Goals as goal

pub returns-clause-only : goal.returns-clause-only
returns-clause-only g c = c.tell_presence.ensures.only in_root c.args._tag
