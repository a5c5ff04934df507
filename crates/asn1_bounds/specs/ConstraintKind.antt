-- The kind of a constraint, and its part.
use Rattle.std.specs.Prelude.{ℕ, Bool, true, is_some, Option, None, Some}
use Rattle.asn1_bounds.specs.declared.value.Value.{Value}
use Rattle.asn1_bounds.specs.declared.size.Size.{Size}
use Rattle.asn1_bounds.specs.declared.alphabet.PermittedAlphabet.{PermittedAlphabet}
use Rattle.asn1_bounds.specs.declared.extensible.Extensible.{Extensible}
use Rattle.asn1_bounds.specs.declared.constraint.Constraint.{Constraint}
use Rattle.asn1_bounds.specs.declared.constraint.Constraint.TheVariants as constraint
use Rattle.asn1_bounds.specs.declared.constraint.ConstraintDiscriminant.{ConstraintDiscriminant}
use Rattle.asn1_bounds.specs.declared.constraint.ConstraintDiscriminant.TheVariants as kind

-- the kind of a constraint
abbrev pub kind_of : Constraint → ConstraintDiscriminant
kind_of (constraint.Value part) = kind.Value
kind_of (constraint.Size part) = kind.Size
kind_of (constraint.PermittedAlphabet part) = kind.PermittedAlphabet
kind_of constraint.Extensible = kind.Extensible

-- the index of the kind among the kinds
abbrev pub index_of : Constraint → ℕ
index_of (constraint.Value part) = 0
index_of (constraint.Size part) = 1
index_of (constraint.PermittedAlphabet part) = 2
index_of constraint.Extensible = 3

-- its part on values, if it is of that kind
abbrev pub value_of : Constraint → Option (Extensible Value)
value_of (constraint.Value part) = Some part
value_of (constraint.Size part) = None
value_of (constraint.PermittedAlphabet part) = None
value_of constraint.Extensible = None

-- its part on lengths, if it is of that kind
abbrev pub size_of : Constraint → Option (Extensible Size)
size_of (constraint.Value part) = None
size_of (constraint.Size part) = Some part
size_of (constraint.PermittedAlphabet part) = None
size_of constraint.Extensible = None

-- its part on characters, if it is of that kind
abbrev pub alphabet_of : Constraint → Option (Extensible PermittedAlphabet)
alphabet_of (constraint.Value part) = None
alphabet_of (constraint.Size part) = None
alphabet_of (constraint.PermittedAlphabet part) = Some part
alphabet_of constraint.Extensible = None

-- the part is extensible, or the constraint is the extension marker
abbrev pub is_extensible : Constraint → Bool
is_extensible (constraint.Value part) = is_some part.extensible
is_extensible (constraint.Size part) = is_some part.extensible
is_extensible (constraint.PermittedAlphabet part) = is_some part.extensible
is_extensible constraint.Extensible = true
