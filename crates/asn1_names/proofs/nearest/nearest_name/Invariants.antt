use Rattle.std.proofs.Common.{◌≡◌, ◌≤◌, ◌+◌, take, MatchOption}
use Rattle.std.specs.List.{All, Contains}
use Rattle.asn1_names.specs.Nearest.{edits, most_edits}
use Rattle.asn1_names.proofs.nearest.nearest_name.Given as goal

abbrev pub invariant-loop-definition : goal.invariant-loop-definition
invariant-loop-definition l = record {
  least : All (λ other. l.limit ≤ edits l.name other) (take l.definition-index l.defined);
  best : MatchOption l.nearest (l.limit ≡ most_edits l.name + 1) (λ d. Contains l.defined d × (edits l.name d ≡ l.limit) × (l.limit ≤ most_edits l.name));
}
