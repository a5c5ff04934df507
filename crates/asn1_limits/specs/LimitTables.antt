-- The constraints of limits in tables, and the values that a table allows.
use Rattle.std.specs.Prelude.{◌≡◌, ◌⊎◌, ℕ, ℤ, true, List, None, Some, IfSome}
use Rattle.std.proofs.Common.{inl, inr}
use Rattle.asn1_ranges.specs.declared.bounded.Bounded.{Bounded}
use Rattle.asn1_model.specs.ConstraintSets.{ConstraintSet}
use Rattle.asn1_values.specs.Alphabets.{is_among}
use Rattle.asn1_limits.specs.Facets.{Facets, HasNumberIn, HasOnly, HasSizeIn}

-- the constraints, with these sizes in the place of theirs (X.680, 51.5)
abbrev pub with_sizes : Bounded ℕ → ConstraintSet → ConstraintSet
with_sizes sizes set = record set { size = Some (record { root = record { bound = sizes }; additions = None }) }

-- the constraints, with these numbers in the place of theirs (51.4)
abbrev pub with_numbers : Bounded ℤ → ConstraintSet → ConstraintSet
with_numbers numbers set = record set { value = Some (record { root = record { bound = numbers }; additions = None }) }

-- the constraints, with these characters in the place of theirs (51.7)
abbrev pub with_characters : List ℕ → ConstraintSet → ConstraintSet
with_characters permitted set = record set { permitted_alphabet = Some (record { root = permitted; additions = None }) }

-- the constraints, with the extension marker (52)
abbrev pub with_marker : ConstraintSet → ConstraintSet
with_marker set = record set { extensible = true }

-- The root of the constraints has the value, by what they see of it.
pub record IsInRootOf (set : ConstraintSet) (f : Facets) : Type 0 where
  pub size : IfSome set.size (λ part. HasSizeIn part.root.bound f)
  pub number : IfSome set.value (λ part. HasNumberIn part.root.bound f)
  pub characters : IfSome set.permitted_alphabet (λ part. HasOnly (is_among part.root) f)

-- The constraints allow the value: they have the extension marker, or their root has it.
abbrev pub IsAllowedBy : ConstraintSet → Facets → Type 0
IsAllowedBy set f = (set.extensible ≡ true) ⊎ IsInRootOf set f

module _ (set : ConstraintSet) (f : Facets) where
  pub sizes_in_root : (sizes : Bounded ℕ) → HasSizeIn sizes f → IsInRootOf set f → IsInRootOf (with_sizes sizes set) f
  sizes_in_root sizes within root = record { size = within; number = root.number; characters = root.characters }

  pub numbers_in_root : (numbers : Bounded ℤ) → HasNumberIn numbers f → IsInRootOf set f → IsInRootOf (with_numbers numbers set) f
  numbers_in_root numbers within root = record { size = root.size; number = within; characters = root.characters }

  pub characters_in_root : (permitted : List ℕ) → HasOnly (is_among permitted) f → IsInRootOf set f → IsInRootOf (with_characters permitted set) f
  characters_in_root permitted within root = record { size = root.size; number = root.number; characters = within }

  pub sizes_allowed : (sizes : Bounded ℕ) → HasSizeIn sizes f → IsAllowedBy set f → IsAllowedBy (with_sizes sizes set) f
  sizes_allowed sizes within allowed = elim allowed [ inl marked ↦ inl marked | inr root ↦ inr (sizes_in_root sizes within root) ]

  pub numbers_allowed : (numbers : Bounded ℤ) → HasNumberIn numbers f → IsAllowedBy set f → IsAllowedBy (with_numbers numbers set) f
  numbers_allowed numbers within allowed = elim allowed [ inl marked ↦ inl marked | inr root ↦ inr (numbers_in_root numbers within root) ]

  pub characters_allowed : (permitted : List ℕ) → HasOnly (is_among permitted) f → IsAllowedBy set f → IsAllowedBy (with_characters permitted set) f
  characters_allowed permitted within allowed =
      elim allowed [ inl marked ↦ inl marked | inr root ↦ inr (characters_in_root permitted within root) ]

  pub marker_in_root : IsInRootOf set f → IsInRootOf (with_marker set) f
  marker_in_root root = record { size = root.size; number = root.number; characters = root.characters }
