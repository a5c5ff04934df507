use Rattle.std.proofs.Common.{◌-◌}
use Rattle.asn1_tags.proofs.Searching.{Searched}
use Rattle.asn1_tags.proofs.searches.find_in_table.Given as goal

-- the entries before the start are less, and those from the end on are not
abbrev pub invariant-loop-start : goal.invariant-loop-start
invariant-loop-start l = Searched l.tag l.table l.start l.end l.found l.meter.comparisons

abbrev pub decreases-loop-start : goal.decreases-loop-start
decreases-loop-start l = l.end - l.start
