-- The places of the names that modules define and import.
use Rattle.std.specs.Prelude.{ℕ, ◌+◌, ◌++◌, List, [], ◌∷◌, map}
use Rattle.std.specs.List.{flat_map}
use Rattle.asn1_notation.specs.declared.modules.Import.{Import}
use Rattle.asn1_notation.specs.declared.modules.Module.{Module}
use Rattle.asn1_notation.specs.declared.names.Span.{Span}
use Rattle.asn1_names.specs.declared.names.Place.{Place}
use Rattle.asn1_modules.specs.declared.source.Source.{Source}

-- octets of the text with this index
abbrev pub place_in : ℕ → Span → Place
place_in text span = record { text = text; span = span }

-- the names of the definitions of a module, of types and of values (X.680, 16.1 and 16.2)
abbrev pub defined_in : ℕ → Module → List Place
defined_in text modules = map (λ assignment. place_in text assignment.name) modules.assignments.items

-- the names that a module imports from another
abbrev pub imported_by : ℕ → Import → List Place
imported_by text import = map (place_in text) import.names.items

-- the names that a module imports (X.680, 13.1)
abbrev pub imported_in : ℕ → Module → List Place
imported_in text modules = flat_map (imported_by text) modules.imports.items

-- the places in the modules of some texts, of which the first has this index
abbrev pub places_from : (ℕ → Module → List Place) → ℕ → List Source → List Place
places_from places text [] = []
places_from places text (source ∷ sources) = flat_map (places text) source.modules.now ++ places_from places (text + 1) sources

-- the names of all definitions of the modules of some texts
abbrev pub defined_places : List Source → List Place
defined_places = places_from defined_in 0

-- all names that the modules of some texts import
abbrev pub imported_places : List Source → List Place
imported_places = places_from imported_in 0
