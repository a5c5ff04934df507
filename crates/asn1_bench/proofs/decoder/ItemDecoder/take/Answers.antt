use Rattle.asn1_bench.proofs.decoder.ItemDecoder.take.Goals as goal

pub returns-in-Ok-clause-took : goal.returns-in-Ok-clause-took
returns-in-Ok-clause-took g c = λ h inside back no_failure at body size meets. c.in-Ok.ensures.took h inside back at body size meets
