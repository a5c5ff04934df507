-- Constraint sets: what a list of constraints comes to, and what its root admits (X.680, 50).
use Rattle.std.specs.Prelude.{ℕ, ℤ, ⊤, Bool, true, false, ◌||◌, is_some, List, [], ◌∷◌, Option, None, Some, MatchOption, if◌then◌else◌}
use Rattle.asn1_bounds.specs.declared.alphabet.PermittedAlphabet.{PermittedAlphabet}
use Rattle.asn1_bounds.specs.declared.value.Value.{Value}
use Rattle.asn1_bounds.specs.declared.size.Size.{Size}
use Rattle.asn1_bounds.specs.declared.extensible.Extensible.{Extensible}
use Rattle.asn1_bounds.specs.declared.constraint.Constraint.{Constraint}
use Rattle.asn1_bounds.specs.declared.constraint.Constraint.TheVariants as constraint
use Rattle.asn1_bounds.specs.declared.constraints.Constraints.{Constraints}
use Rattle.asn1_bounds.specs.Admitted.{HasValue, HasLength, IsPermitted, value_intersection, size_intersection, common_characters}

-- of two value constraints, and of two size constraints: the members of both bounds
abbrev pub common_values : Value → Value → Value
common_values a b = record { bound = value_intersection a.bound b.bound }

abbrev pub common_sizes : Size → Size → Size
common_sizes a b = record { bound = size_intersection a.bound b.bound }

-- the constraint, not extensible
abbrev pub not_extensible : {T : Type 0} → T → Extensible T
not_extensible kind = record { constraint = kind; extensible = None }

-- of two parts: the additions of the first, where both are extensible
abbrev pub common_additions : {A : Type 0} → Option A → Option A → Option A
common_additions a b = if is_some b then a else None

module _ {T : Type 0} (both : T → T → T) where
  -- two parts of one kind
  abbrev pub part_intersection : Extensible T → Extensible T → Extensible T
  part_intersection a b = record {
    constraint = both a.constraint b.constraint;
    extensible = common_additions a.extensible b.extensible;
  }

  -- a kind without a part restricts nothing
  abbrev pub parts_intersection : Option (Extensible T) → Option (Extensible T) → Option (Extensible T)
  parts_intersection None b = b
  parts_intersection (Some a) None = Some a
  parts_intersection (Some a) (Some b) = Some (part_intersection a b)

-- two sets: part by part, extensible where either is
abbrev pub set_intersection : Constraints → Constraints → Constraints
set_intersection a b = record {
  value = parts_intersection common_values a.value b.value;
  size = parts_intersection common_sizes a.size b.size;
  permitted_alphabet = parts_intersection common_characters a.permitted_alphabet b.permitted_alphabet;
  extensible = a.extensible || b.extensible;
}

-- the set of these parts, with the extension marker or without
abbrev pub set_of_parts : Option (Extensible Value) → Option (Extensible Size) → Option (Extensible PermittedAlphabet) → Bool → Constraints
set_of_parts value size alphabet extensible =
    record { value = value; size = size; permitted_alphabet = alphabet; extensible = extensible }

-- the set that restricts nothing
abbrev pub no_constraints : Constraints
no_constraints = record { value = None; size = None; permitted_alphabet = None; extensible = false }

-- the set of one constraint
abbrev pub set_of_one : Constraint → Constraints
set_of_one (constraint.Value part) = record no_constraints { value = Some part }
set_of_one (constraint.Size part) = record no_constraints { size = Some part }
set_of_one (constraint.PermittedAlphabet part) = record no_constraints { permitted_alphabet = Some part }
set_of_one constraint.Extensible = record no_constraints { extensible = true }

-- the set of a list of constraints: the intersection of them all
abbrev pub set_of_all : List Constraint → Constraints
set_of_all [] = no_constraints
set_of_all (c ∷ cs) = set_intersection (set_of_one c) (set_of_all cs)

-- the root of the set admits the value: its value part has it as a member, if there is one
abbrev pub AdmitsValue : Constraints → ℤ → Type 0
AdmitsValue set n = MatchOption set.value ⊤ (λ part. HasValue part.constraint.bound n)

-- the root of the set admits the length: its size part has it as a member, if there is one
abbrev pub AdmitsLength : Constraints → ℕ → Type 0
AdmitsLength set n = MatchOption set.size ⊤ (λ part. HasLength part.constraint.bound n)

-- the root of the set admits the character: its permitted alphabet has it, if there is one; so an empty one admits none
abbrev pub AdmitsCharacter : Constraints → ℕ → Type 0
AdmitsCharacter set n = MatchOption set.permitted_alphabet ⊤ (λ part. IsPermitted part.constraint n)

-- the part is there, and extensible
abbrev pub is_part_extensible : {T : Type 0} → Option (Extensible T) → Bool
is_part_extensible None = false
is_part_extensible (Some part) = is_some part.extensible

-- the set has the extension marker, or its part on values or on lengths is extensible
abbrev pub is_per_visibly_extensible : Constraints → Bool
is_per_visibly_extensible set = set.extensible || is_part_extensible set.value || is_part_extensible set.size

-- so, or its part on characters is extensible
abbrev pub is_extensible : Constraints → Bool
is_extensible set = is_per_visibly_extensible set || is_part_extensible set.permitted_alphabet
