-- The objects and curves with names, and the rows of each.
use Rattle.std.specs.Prelude.{Contains, List, ℕ, map}
use Rattle.asn1_certificate_text.specs.declared.registry.table.TheConstants.{CURVES, OBJECTS}

-- a row of a table has these arcs and this name
abbrev pub NamesObject : List (List ℕ × List ℕ) → List ℕ → List ℕ → Type 0
NamesObject rows arcs name = Contains rows (arcs, name)

-- a row of a table has these arcs, this name and this size in bits
abbrev pub NamesCurve : List (List ℕ × List ℕ × ℕ) → List ℕ → List ℕ → ℕ → Type 0
NamesCurve rows arcs name bits = Contains rows (arcs, name, bits)

-- the arcs of the objects that have a name here
abbrev pub known_objects : List (List ℕ)
known_objects = map (λ row. row.0.now) OBJECTS.now

-- the arcs of each, with its name
abbrev pub object_names : List (List ℕ × List ℕ)
object_names = map (λ row. (row.0.now, row.1.now)) OBJECTS.now

-- the arcs of the curves that have a name here
abbrev pub known_curves : List (List ℕ)
known_curves = map (λ row. row.0.now) CURVES.now

-- the arcs of each, with its name and how many bits a key on it has
abbrev pub curve_sizes : List (List ℕ × List ℕ × ℕ)
curve_sizes = map (λ row. (row.0.now, row.1.now, row.2)) CURVES.now
