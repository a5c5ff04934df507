use Rattle.std.proofs.Common.{◌≡◌, length, map}
use Rattle.asn1_tokens.specs.Words.{is_among}
use Rattle.asn1_tokens.proofs.reserved_words.is_in.Given as goal

abbrev pub invariant-loop-table : goal.invariant-loop-table
invariant-loop-table l = is_among (map (λ k. k.now) l.table) l.word ≡ is_among (map (λ k. k.now) l.initial.table) l.word

abbrev pub decreases-loop-table : goal.decreases-loop-table
decreases-loop-table l = length l.table
