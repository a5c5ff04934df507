use Rattle.std.proofs.Common.{List, [], ℕ}
use Rattle.asn1_ber_items.specs.Spellings.{Spells}
use Rattle.asn1_ber_items.specs.Walks.{IsConsistent, Writes, of_all, work}
use Rattle.asn1_ber_items.proofs.normal.normal_form.Given as goal

abbrev pub invariant-loop-walk : goal.invariant-loop-walk
invariant-loop-walk l = record {
  consistent : IsConsistent l.walk;
  ahead : (normal : List ℕ) → Spells l.bytes normal [] → Writes l.walk (of_all normal);
  behind : (normal : List ℕ) → Writes l.walk (of_all normal) → Spells l.bytes normal [];
}

abbrev pub decreases-loop-walk : goal.decreases-loop-walk
decreases-loop-walk l = work l.walk
