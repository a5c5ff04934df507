-- The cases of a CHOICE by their places.
use Rattle.std.specs.Prelude.{ℕ, zero, suc, List, [], ◌∷◌}
use Rattle.std.proofs.Common.{inl, inr}
use Rattle.asn1_components.specs.Alternatives.{OneOf}
use Rattle.asn1_slots.specs.Cases.{Case, alternatives_of}
use Rattle.asn1_spelling.specs.Choices.{Comparisons}
use denote.Enum.Declared.{Choice}
use denote.Struct.Field.{Field}

-- the place of a variant in its enum
abbrev pub variant_place : (parts : List (List Field)) → Choice parts → ℕ
variant_place [] c = absurd c
variant_place (p ∷ ps) (inl x) = zero
variant_place (p ∷ ps) (inr c) = suc (variant_place ps c)

module _ {V : Type 0} where
  -- that of the chosen case
  abbrev pub case_place : (cases : List (Case V)) → OneOf (alternatives_of cases) → ℕ
  case_place [] x = absurd x
  case_place (h ∷ hs) (inl x) = zero
  case_place (h ∷ hs) (inr x) = suc (case_place hs x)

  -- when two values of each are equal
  abbrev pub comparisons_of : (cases : List (Case V)) → Comparisons (alternatives_of cases)
  comparisons_of [] = tt
  comparisons_of (h ∷ hs) = (h.eq, comparisons_of hs)
