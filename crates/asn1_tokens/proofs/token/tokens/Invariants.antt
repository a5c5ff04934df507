use Rattle.std.proofs.Common.{ℕ, List, ◌++◌, ◌≤◌, length}
use Rattle.asn1_tokens.specs.declared.token.Token.{Token}
use Rattle.asn1_tokens.specs.Tokens.{TakesTokens}
use Rattle.asn1_tokens.proofs.token.tokens.Given as goal

abbrev pub invariant-loop-token : goal.invariant-loop-token
invariant-loop-token l = record {
  so_far : (more : List Token) (end : List ℕ) → TakesTokens (length l.text) l.rest more end → TakesTokens (length l.text) l.text (l.tokens.items ++ more) end;
  within : length l.rest ≤ length l.text;
}

abbrev pub decreases-loop-token : goal.decreases-loop-token
decreases-loop-token l = length l.rest
