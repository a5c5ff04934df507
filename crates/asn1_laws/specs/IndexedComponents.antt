-- The component at an index.
use Rattle.std.specs.Prelude.{ℕ, zero, suc, ⊤, List, [], ◌∷◌}
use Rattle.asn1_components.specs.ComponentTypes.{ComponentType}
use Rattle.asn1_model.specs.Records.{Record}

-- its records, none after the last component
abbrev pub records_at : {V : Type 0} → List (ComponentType V) → ℕ → V → List Record
records_at [] index v = []
records_at (c ∷ cs) zero v = c.records v
records_at (c ∷ cs) (suc index) v = records_at cs index v

-- it meets its type's invariant
abbrev pub IsOfTypeAt : {V : Type 0} → List (ComponentType V) → ℕ → V → Type 0
IsOfTypeAt [] index v = ⊤
IsOfTypeAt (c ∷ cs) zero v = c.IsOfType v
IsOfTypeAt (c ∷ cs) (suc index) v = IsOfTypeAt cs index v
