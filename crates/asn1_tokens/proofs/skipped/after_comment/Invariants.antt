use Rattle.std.proofs.Common.{◌≡◌, ◌+◌, ◌≤◌, length, false}
use Rattle.asn1_tokens.specs.Skipped.{after_comment}
use Rattle.asn1_tokens.proofs.skipped.after_comment.Given as goal

abbrev pub invariant-loop-rest : goal.invariant-loop-rest
invariant-loop-rest l = record {
  same : after_comment l.is_second l.depth l.rest ≡ after_comment false 1 l.text;
  inside : 1 ≤ l.depth;
  counted : l.depth + length l.rest ≤ length l.text + 1;
}

abbrev pub decreases-loop-rest : goal.decreases-loop-rest
decreases-loop-rest l = length l.rest
