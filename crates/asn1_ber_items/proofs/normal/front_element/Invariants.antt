use Rattle.std.proofs.Common.{List, ℕ}
use Rattle.asn1_ber_items.specs.Spellings.{SpellsOne}
use Rattle.asn1_ber_items.specs.Walks.{IsConsistent, Writes, of_first, work}
use Rattle.asn1_ber_items.proofs.normal.front_element.Given as goal

abbrev pub invariant-loop-walk : goal.invariant-loop-walk
invariant-loop-walk l = record {
  consistent : IsConsistent l.walk;
  ahead : (normal rest : List ℕ) → SpellsOne l.bytes normal rest → Writes l.walk (of_first normal rest);
  behind : (normal rest : List ℕ) → Writes l.walk (of_first normal rest) → SpellsOne l.bytes normal rest;
}

abbrev pub decreases-loop-walk : goal.decreases-loop-walk
decreases-loop-walk l = work l.walk
