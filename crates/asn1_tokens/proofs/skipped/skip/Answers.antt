use Rattle.asn1_tokens.specs.Skipped.{nothing}
use Rattle.asn1_tokens.proofs.skipped.skip.Goals as goal

pub returns-in-Ok-None-clause-skipped : goal.returns-in-Ok-None-clause-skipped
returns-in-Ok-None-clause-skipped c = c.loop-after.invariant.0 _ (nothing _)

pub returns-in-Err-clause-skipped : goal.returns-in-Err-clause-skipped
returns-in-Err-clause-skipped c = c.loop-after.invariant.0 _ (nothing _)
