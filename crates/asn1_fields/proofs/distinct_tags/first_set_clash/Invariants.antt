use Rattle.asn1_fields.proofs.ClashSearches.{IsLeft}
use Rattle.asn1_fields.proofs.distinct_tags.first_set_clash.Given as goal

-- the first clash is that of the fields from here on
abbrev pub invariant-loop-i : goal.invariant-loop-i
invariant-loop-i l = IsLeft (λ c following. following) l.fields l.i
