use Rattle.std.proofs.Common.{arith}
use Rattle.asn1_tokens.proofs.ItemLemmas.{digits_end, number_splits}
use Rattle.asn1_tokens.proofs.names.after_number.Goals as goal
use Rattle.asn1_tokens.proofs.names.after_number.Goals.{else-first-eq48-via-then-first-eq48+else-length-gt1, else-first-eq48-via-else-first-eq48}

pub returns-clause-number : goal.returns-clause-number
returns-clause-number c =
    number_splits c.args.text.now c.digit_count-length.result c.digit_count-length.ensures.count c.digit_count-length.ensures.within c.requires.digit
    (λ zero_first.
    elim c.else-first-eq48.branch [
      | else-first-eq48-via-then-first-eq48+else-length-gt1 w ↦ omega arith
      | else-first-eq48-via-else-first-eq48 w ↦ absurd (omega (arith, zero_first, c.first.ensures.value))
    ])

pub returns-clause-ends : goal.returns-clause-ends
returns-clause-ends c = digits_end c.args.text.now _ c.digit_count-length.ensures.count
