use Rattle.std.proofs.Common.{◌≡◌, ◌+◌, length}
use Rattle.asn1_fields.specs.DistinctTags.{sequence_clash}
use Rattle.asn1_fields.proofs.ClashSearches.{shifted}
use Rattle.asn1_clash.specs.Views.{components_view}
use Rattle.asn1_clash.proofs.search.find_sequence_clash.Given as goal

-- no run so far has a clash, so the first is that of the rest
abbrev pub invariant-loop-rest : goal.invariant-loop-rest
invariant-loop-rest l = record {
  whole : sequence_clash (components_view l.components) ≡ shifted l.start (sequence_clash (components_view l.rest));
  fits : l.start + length l.rest ≡ length l.components;
}

abbrev pub decreases-loop-rest : goal.decreases-loop-rest
decreases-loop-rest l = length l.rest
