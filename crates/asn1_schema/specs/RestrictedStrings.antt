-- Strings of a limited size and of chosen characters, under names of their own (X.680, 51.5 and 51.7).
use Rattle.std.specs.Prelude.{ℕ, List, None, Some}
use Rattle.asn1_ranges.specs.declared.bounded.Bounded.{Bounded}
use Rattle.asn1_tags.specs.declared.tags.Tag.{Tag}
use Rattle.asn1_model.specs.ConstraintSets.{ConstraintSet, unconstrained}
use Rattle.asn1_model.specs.Kinds.{under_own_name, wrapper_type}
use Rattle.asn1_model.specs.Meaning.{Meaning}

-- SIZE: the sizes of the bound (51.5)
abbrev pub sizes_of : Bounded ℕ → ConstraintSet
sizes_of bound = record unconstrained { size = Some (record { root = record { bound = bound }; additions = None }) }

-- FROM: these constraints, and the characters of the alphabet (51.7)
abbrev pub with_characters : List ℕ → ConstraintSet → ConstraintSet
with_characters alphabet constraints =
    record constraints { permitted_alphabet = Some (record { root = alphabet; additions = None }) }

-- A type that holds a value of another, with constraints, under a tag and a name of its own.
abbrev pub restricted_type : {V W : Type 0} → (W → V) → Meaning V → Tag → ConstraintSet → List ℕ → Meaning W
restricted_type content m tag constraints name = under_own_name (record (wrapper_type content m) {
  tag = tag;
  constraints = constraints;
  name = Some name;
})
