-- Components whose equal values are written alike.
use Rattle.std.specs.Prelude.{◌&&◌, ⊤, Bool, true, List, [], ◌∷◌}
use Rattle.asn1_model.specs.WrittenAlike.{HaveSameRecords}
use Rattle.asn1_components.specs.ComponentTypes.{ComponentType}

-- Values that this comparison finds equal have the same records of the component, if its type is well tagged.
abbrev pub IsAlike : {V : Type 0} → ComponentType V → (V → V → Bool) → Type 0
IsAlike c eq = c.IsWellTagged → HaveSameRecords eq c.records

-- each of the components by a comparison of its own
abbrev pub EachIsAlike : {V : Type 0} → List (ComponentType V) → List (V → V → Bool) → Type 0
EachIsAlike [] [] = ⊤
EachIsAlike [] (e ∷ es) = ⊥
EachIsAlike (c ∷ cs) [] = ⊥
EachIsAlike (c ∷ cs) (e ∷ es) = IsAlike c e × EachIsAlike cs es

-- all comparisons find the values equal, as a derived equality has it
abbrev pub all_equal : {V : Type 0} → List (V → V → Bool) → V → V → Bool
all_equal [] v w = true
all_equal (e ∷ []) v w = e v w
all_equal (e ∷ f ∷ es) v w = e v w && all_equal (f ∷ es) v w
