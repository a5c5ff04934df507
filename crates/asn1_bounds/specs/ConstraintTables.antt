-- The constraint set of a constraint table.
use Rattle.std.specs.Prelude.{Some}
use Rattle.std.specs.Option.{option_map}
use Rattle.asn1_bounds.specs.declared.alphabet.PermittedAlphabet.{PermittedAlphabet}
use Rattle.asn1_bounds.specs.declared.extensible.Extensible.{Extensible}
use Rattle.asn1_bounds.specs.declared.constraints.Constraints.{Constraints}
use Rattle.asn1_bounds.specs.declared.table.AlphabetTable.{AlphabetTable}
use Rattle.asn1_bounds.specs.declared.table.ConstraintTable.{ConstraintTable}

-- the part on characters, with a list of them of its own
abbrev pub owned_alphabet : AlphabetTable → Extensible PermittedAlphabet
owned_alphabet part = record { constraint = part.root.now; extensible = part.extensible }

-- the set of constraints that a table borrows
abbrev pub owned : ConstraintTable → Constraints
owned table = record {
  value = table.value;
  size = table.size;
  permitted_alphabet = option_map owned_alphabet table.permitted_alphabet;
  extensible = table.extensible;
}

-- the set with this part on characters in place of its own
abbrev pub with_alphabet : Constraints → Extensible PermittedAlphabet → Constraints
with_alphabet set part = record set { permitted_alphabet = Some part }
