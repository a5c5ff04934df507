use Rattle.asn1_tokens.proofs.TokenLemmas.{all_taken}
use Rattle.asn1_tokens.proofs.token.tokens.Goals as goal

pub returns-in-Ok-None-clause-text : goal.returns-in-Ok-None-clause-text
returns-in-Ok-None-clause-text c = (
  c.loop-token.rest.now,
  all_taken _ _ _ _ c.loop-token.invariant.so_far,
  rw c.in-Ok-None.field-0-is at c.in-Ok-None.ensures.token,
)

pub returns-in-Err-clause-refused : goal.returns-in-Err-clause-refused
returns-in-Err-clause-refused c = (
  c.loop-token.tokens.items,
  c.loop-token.rest.now,
  all_taken _ _ _ _ c.loop-token.invariant.so_far,
  c.in-Err.ensures.token,
)
