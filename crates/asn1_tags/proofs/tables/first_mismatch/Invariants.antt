use Rattle.std.proofs.Common.{ℕ, ◌<◌}
use Rattle.asn1_tags.specs.TagTables.{EntryFits}
use Rattle.asn1_tags.proofs.tables.first_mismatch.Given as goal

-- each entry so far fits
abbrev pub invariant-loop-index : goal.invariant-loop-index
invariant-loop-index l = (earlier : ℕ) → earlier < l.index → EntryFits l.tags l.table earlier
