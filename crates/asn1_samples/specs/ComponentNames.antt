-- The names of components.
use Rattle.std.specs.Prelude.{ℕ, List, map}
use Rattle.asn1_components.specs.Components.{Components, table}

-- as the table has them
abbrev pub component_names : {V : Type 0} → Components V → List (List ℕ)
component_names components = map (λ entry. entry.name) (table components)
