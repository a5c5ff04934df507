-- Constraint sets, apart from where their lists lie in memory.
use Rattle.std.specs.Prelude.{ℕ, ℤ, Bool, false, List, Option, None, Some}
use Rattle.std.specs.Option.{option_map, option_copied}
use Rattle.asn1_ranges.specs.declared.bounded.Bounded.{Bounded}
use Rattle.asn1_ranges.specs.declared.bounded.Bounded.TheVariants as bounded
use Rattle.asn1_bounds.specs.declared.value.Value.{Value}
use Rattle.asn1_bounds.specs.declared.size.Size.{Size}
use Rattle.asn1_bounds.specs.declared.extensible.Extensible.{Extensible}
use Rattle.asn1_bounds.specs.declared.constraints.Constraints.{Constraints}
use Rattle.asn1_bounds.specs.declared.table.ConstraintTable.{ConstraintTable}
use Rattle.asn1_bounds.specs.ConstraintTables.{owned}

-- One kind of constraint: what the extension root allows, and the additions of an extensible one (X.680, 50.1).
pub record Part (T : Type 0) : Type 0 where
  pub root : T
  pub additions : Option (List T)

-- The constraints of a type, of each kind at most one, and whether the extension marker is among them.
pub record ConstraintSet : Type 0 where
  pub value : Option (Part Value)
  pub size : Option (Part Size)
  pub permitted_alphabet : Option (Part (List ℕ))
  pub extensible : Bool

-- a part, apart from where its additions lie in memory
abbrev pub part : {T : Type 0} → Extensible T → Part T
part e = record { root = e.constraint; additions = option_copied e.extensible }

-- a constraint set, apart from where its lists lie in memory
abbrev pub constraint_set : Constraints → ConstraintSet
constraint_set set = record {
  value = option_map part set.value;
  size = option_map part set.size;
  permitted_alphabet = option_map part set.permitted_alphabet;
  extensible = set.extensible;
}

-- the same of a set that borrows all that it has
abbrev pub table_constraints : ConstraintTable → ConstraintSet
table_constraints table = constraint_set (owned table)

-- no constraints
abbrev pub unconstrained : ConstraintSet
unconstrained = record { value = None; size = None; permitted_alphabet = None; extensible = false }

-- the values of the bound
abbrev pub values_of : Bounded ℤ → ConstraintSet
values_of bound = record unconstrained { value = Some (record { root = record { bound = bound }; additions = None }) }

-- the characters of the alphabet
abbrev pub characters_of : List ℕ → ConstraintSet
characters_of alphabet = record unconstrained { permitted_alphabet = Some (record { root = alphabet; additions = None }) }

-- this many elements
abbrev pub size_of : ℕ → ConstraintSet
size_of n = record unconstrained { size = Some (record { root = record { bound = bounded.Single n }; additions = None }) }
