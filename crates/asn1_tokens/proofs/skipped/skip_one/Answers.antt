use Rattle.std.proofs.Common.{refl}
use Rattle.asn1_tokens.proofs.SkipSteps.{skips_white_space, skips_no_break_space, skips_line_comment, skips_comment}
use Rattle.asn1_tokens.proofs.skipped.skip_one.Goals as goal

pub returns-then-is_white_space-clause-skipped : goal.returns-then-is_white_space-clause-skipped
returns-then-is_white_space-clause-skipped c =
    skips_white_space _ _ _ _ c.is_white_space.ensures c.if-is_white_space.true c.first.ensures.value refl

pub returns-then-begins_with_no_break_space-clause-skipped : goal.returns-then-begins_with_no_break_space-clause-skipped
returns-then-begins_with_no_break_space-clause-skipped c =
    skips_no_break_space _ _ _ c.begins_with_no_break_space.ensures.value c.if-begins_with_no_break_space.true refl

pub returns-then-begins_with_pair-clause-skipped : goal.returns-then-begins_with_pair-clause-skipped
returns-then-begins_with_pair-clause-skipped c =
    skips_line_comment _ _ _ c.begins_with_pair.ensures.value c.if-begins_with_pair.true c.after_hyphens.ensures.rest

pub returns-in-Some-clause-skipped : goal.returns-in-Some-clause-skipped
returns-in-Some-clause-skipped c =
    skips_comment _ _ _ c.begins_with_pair-else-begins_with_pair.ensures.value c.if-begins_with_pair-2.true c.in-Some.ensures.rest
