use Rattle.std.proofs.Common.{◌≡◌, ◌<◌, ℕ, false, get_or}
use Rattle.asn1_tags.specs.Tags.{tag_eq}
use Rattle.asn1_tags.specs.declared.tags.Tag.{Tag}
use Rattle.asn1_tags.proofs.searches.find_in_list.Given as goal

-- each tag so far was compared once, and is another
abbrev pub invariant-loop-index : goal.invariant-loop-index
invariant-loop-index l = (l.meter.comparisons ≡ l.index) × ((k : ℕ) (d : Tag) → k < l.index → tag_eq (get_or l.tags k d) l.tag ≡ false)
