-- The components of a badge, as they are read.
use Rattle.std.specs.Prelude.{◌≡◌, ℕ, true, IsTrue, List, [], ◌∷◌, Option, Some, codes}
use Rattle.std.specs.Option.{option_eq}
use Rattle.asn1_model.specs.contracts.impls.built_in_integers.U32AsnType.TheImpl.{ghosts as numbers}
use Rattle.asn1_model.specs.Kinds.{string_type}
use Rattle.asn1_model.specs.Meaning.{IsReadAsOwn}
use Rattle.asn1_model.specs.Records.{Record, units, visible}
use Rattle.asn1_model.specs.TaggedTypes.{TaggedType, untagged}
use Rattle.asn1_model.specs.Tags.{universal}
use Rattle.asn1_slots.specs.Slots.{Slot, optional_slot, required_slot}
use Rattle.asn1_values.specs.Alphabets.{is_visible}
use Rattle.asn1_samples.specs.declared.badge.Badge.{Badge}
use Rattle.asn1_samples.specs.declared.badge.BadgePart.{BadgePart}
use Rattle.asn1_samples.specs.declared.badge.BadgePart.TheVariants.{Id, Label, Figure}
use Rattle.asn1_samples.specs.declared.shape.Shape.{Shape}
use Rattle.asn1_samples.specs.contracts.shape.ShapeAsnType.TheImpl.{ghosts as figures}
use Rattle.asn1_samples.specs.contracts.shape.ShapePartialEq.TheImpl.{ghosts as shapes}
use Rattle.std.proofs.Common.{eqb}
use Rattle.std.specs.Cmp.Lexicographic.{pointwise}

-- the type of a label
abbrev pub label_type : TaggedType (List ℕ)
label_type = untagged (string_type (universal 26) (codes "VisibleString") (λ unit. IsTrue (is_visible unit)) (units visible))

-- the index of each
abbrev pub badge_index : BadgePart → ℕ
badge_index (Id id) = 0
badge_index (Label label) = 1
badge_index (Figure shape) = 2

-- the part is that component of the badge, or one that is equal
abbrev pub IsBadgePart : Badge → BadgePart → Type 0
IsBadgePart badge (Id id) = id ≡ badge.id
IsBadgePart badge (Label label) = option_eq (pointwise eqb) (Some label) badge.label ≡ true
IsBadgePart badge (Figure shape) = shapes.eq shape badge.shape ≡ true

-- the records that are read as the part
abbrev pub IsReadAsBadgePart : BadgePart → List Record → Type 0
IsReadAsBadgePart (Id id) = IsReadAsOwn numbers.meaning id
IsReadAsBadgePart (Label label) = label_type.IsReadAs label
IsReadAsBadgePart (Figure shape) = IsReadAsOwn figures.meaning shape

-- the slots in which the components of a badge are kept as they come
abbrev pub badge_slots : List (Slot (Option ℕ × Option (List ℕ) × Option Shape) Badge)
badge_slots =
    required_slot (codes "id") (λ b. b.id) (λ s. s.0) (untagged numbers.meaning) eqb ∷
    optional_slot (codes "label") (λ b. b.label) (λ s. s.1) label_type (pointwise eqb) ∷
    required_slot (codes "shape") (λ b. b.shape) (λ s. s.2) (untagged figures.meaning) shapes.eq ∷ []
