-- A derived equality of a CHOICE compares what its cases hold.
use Rattle.std.proofs.Common.{◌≡◌, ◌∙◌, ℕ, zero, suc, Bool, true, false, List, [], ◌∷◌, ap, arith, inl, inr, sym, refl}
use Rattle.asn1_components.specs.Alternatives.{OneOf}
use Rattle.asn1_slots.specs.Cases.{Case, IsMade, alternatives_of}
use Rattle.asn1_spelling.specs.Cases.{case_place, comparisons_of, variant_place}
use Rattle.asn1_spelling.specs.Choices.{AreEqualIn}
use denote.Enum.Compared.{Each, by}
use denote.Enum.Declared.{Choice}
use denote.Struct.Field.{Field}

-- values that a derived equality calls equal are of one variant
pub one_variant : (parts : List (List Field)) (each : Each Bool parts) (c d : Choice parts) → by false false parts each c d ≡ true → variant_place parts c ≡ variant_place parts d
one_variant [] each c d same = absurd c
one_variant (p ∷ ps) each (inl x) (inl y) same = refl
one_variant (p ∷ ps) each (inl x) (inr d) same = cc
one_variant (p ∷ ps) each (inr c) (inl y) same = cc
one_variant (p ∷ ps) each (inr c) (inr d) same = ap suc (one_variant ps each.1 c d same)

less_one : (m n : ℕ) → suc m ≡ suc n → m ≡ n
less_one m n same = omega (arith, same)

no_first : {P : Type 0} (n : ℕ) → zero ≡ suc n → P
no_first n same = absurd (omega (arith, same))

-- equal values of one case have equal contents
pub equal_in_case : {V : Type 0} (eq : V → V → Bool) (cases : List (Case V)) (x y : OneOf (alternatives_of cases)) (v w : V) → IsMade eq cases x v → IsMade eq cases y w →
    case_place cases x ≡ case_place cases y → eq v w ≡ true → AreEqualIn (alternatives_of cases) (comparisons_of cases) x y
equal_in_case eq [] x y v w one other at same = absurd x
equal_in_case eq (h ∷ hs) (inl x) (inl y) v w one other at same = sym (other.1 x) ∙ ap (λ u. eq u w) one.0 ∙ same
equal_in_case eq (h ∷ hs) (inl x) (inr y) v w one other at same = no_first (case_place hs y) at
equal_in_case eq (h ∷ hs) (inr x) (inl y) v w one other at same = no_first (case_place hs x) (sym at)
equal_in_case eq (h ∷ hs) (inr x) (inr y) v w one other at same = equal_in_case eq hs x y v w one other (less_one (case_place hs x) (case_place hs y) at) same
