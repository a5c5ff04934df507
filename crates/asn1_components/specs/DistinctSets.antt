-- Components in which the components of each SET have distinct tags (X.680, 27.3).
use Rattle.std.specs.Prelude.{⊤, List, [], ◌∷◌}
use Rattle.asn1_model.specs.DistinctSets.{AreDistinct}
use Rattle.asn1_components.specs.ComponentTypes.{ComponentType}

-- So it is in a component whose type is well tagged, and in each of several.
abbrev pub IsDistinct : {V : Type 0} → ComponentType V → Type 0
IsDistinct {V = V} c = c.IsWellTagged → (v : V) → AreDistinct (c.records v)

abbrev pub EachIsDistinct : {V : Type 0} → List (ComponentType V) → Type 0
EachIsDistinct [] = ⊤
EachIsDistinct (c ∷ cs) = IsDistinct c × EachIsDistinct cs
