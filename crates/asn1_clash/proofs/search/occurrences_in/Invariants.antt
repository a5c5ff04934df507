use Rattle.std.proofs.Common.{◌≡◌, ◌++◌, take}
use Rattle.asn1_clash.specs.Views.{components_view}
use Rattle.asn1_clash.specs.Occurrences.{occurrences, occurrences_at}
use Rattle.asn1_clash.proofs.search.occurrences_in.Given as goal

abbrev pub invariant-loop-tag : goal.invariant-loop-tag
invariant-loop-tag l = l.occurrences.items ≡ l.initial.occurrences.items ++ occurrences_at l.index (take l.tag-index l.tag-items)

abbrev pub invariant-loop-index : goal.invariant-loop-index
invariant-loop-index l = l.occurrences.items ≡ occurrences 0 (components_view (take l.index l.components))
