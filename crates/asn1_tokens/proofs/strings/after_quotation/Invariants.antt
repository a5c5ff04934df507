use Rattle.std.proofs.Common.{◌≡◌, length, false}
use Rattle.asn1_tokens.specs.Items.{after_quotation}
use Rattle.asn1_tokens.proofs.strings.after_quotation.Given as goal

abbrev pub invariant-loop-rest : goal.invariant-loop-rest
invariant-loop-rest l = after_quotation l.is_second l.rest ≡ after_quotation false l.text

abbrev pub decreases-loop-rest : goal.decreases-loop-rest
decreases-loop-rest l = length l.rest
