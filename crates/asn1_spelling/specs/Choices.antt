-- Equal values of a CHOICE (X.680, 29): they have one alternative, and equal values in it.
use Rattle.std.specs.Prelude.{◌≡◌, ⊤, Bool, true, List, [], ◌∷◌}
use Rattle.std.proofs.Common.{inl, inr}
use Rattle.asn1_components.specs.Alternatives.{Alternative, OneOf}
use Rattle.asn1_model.specs.DistinctSets.{SetsAreDistinctInside}
use Rattle.asn1_model.specs.WrittenAlike.{AreAlikeInside}

-- a comparison of the values of each alternative
abbrev pub Comparisons : List Alternative → Type 0
Comparisons [] = ⊤
Comparisons (a ∷ alts) = (a.Value → a.Value → Bool) × Comparisons alts

-- two values by which one is chosen, and their comparison in it
abbrev pub AreEqualIn : (alts : List Alternative) → Comparisons alts → OneOf alts → OneOf alts → Type 0
AreEqualIn [] es x y = absurd x
AreEqualIn (a ∷ alts) es (inl x) (inl y) = es.0 x y ≡ true
AreEqualIn (a ∷ alts) es (inl x) (inr y) = ⊥
AreEqualIn (a ∷ alts) es (inr x) (inl y) = ⊥
AreEqualIn (a ∷ alts) es (inr x) (inr y) = AreEqualIn alts es.1 x y

-- equal values of each alternative's type are written alike
abbrev pub EachIsAlikeInside : (alts : List Alternative) → Comparisons alts → Type 0
EachIsAlikeInside [] es = ⊤
EachIsAlikeInside (a ∷ alts) es = AreAlikeInside a.type es.0 × EachIsAlikeInside alts es.1

-- the components of each SET in these values have distinct tags
abbrev pub EachIsDistinctInside : List Alternative → Type 0
EachIsDistinctInside [] = ⊤
EachIsDistinctInside (a ∷ alts) = SetsAreDistinctInside a.type × EachIsDistinctInside alts
