use Rattle.std.proofs.Common.{ℕ, ◌+◌, ◌-◌, ◌*◌, ◌≤◌, length}
use Rattle.asn1_certificate_rules.specs.Departures.{KeepsRules}
use Rattle.asn1_certificate_rules.specs.Findings.{Finds, moved}
use Rattle.asn1_certificate_rules.specs.declared.finding.Finding.{Finding}
use Rattle.asn1_certificate_rules.proofs.broken_rules.+broken_rules.Given as goal

abbrev pub decreases-find_broken_rule : goal.decreases-find_broken_rule
decreases-find_broken_rule l = 2 * l.depth + 1

abbrev pub decreases-find_inside : goal.decreases-find_inside
decreases-find_inside l = 2 * l.depth

-- what is found in what is left is found in the bytes
abbrev pub invariant-find_broken_rule-loop-left : goal.invariant-find_broken_rule-loop-left
invariant-find_broken_rule-loop-left l = record {
  fits : length l.left ≤ length l.bytes;
  findings : (f : Finding) → Finds l.depth l.place l.left f → Finds l.depth l.fn.part l.bytes (moved (length l.bytes - length l.left) f);
  kept : KeepsRules l.rules l.place l.left → KeepsRules l.rules l.fn.part l.bytes;
}

abbrev pub decreases-find_broken_rule-loop-left : goal.decreases-find_broken_rule-loop-left
decreases-find_broken_rule-loop-left l = length l.left
