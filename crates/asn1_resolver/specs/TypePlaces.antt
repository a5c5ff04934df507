-- The places of the names of types that modules define (X.680, 16.1).
use Rattle.std.specs.Prelude.{ℕ, List, [], ◌∷◌}
use Rattle.std.specs.List.{flat_map}
use Rattle.asn1_modules.specs.Places.{place_in, places_from}
use Rattle.asn1_modules.specs.declared.source.Source.{Source}
use Rattle.asn1_names.specs.declared.names.Place.{Place}
use Rattle.asn1_notation.specs.declared.modules.Assignment.{Assignment}
use Rattle.asn1_notation.specs.declared.modules.Definition.{Definition}
use Rattle.asn1_notation.specs.declared.modules.Definition.TheVariants.{«Type» as of_type}
use Rattle.asn1_notation.specs.declared.modules.Module.{Module}

-- the place of a definition of a type; that of a value, a type that arguments complete, a class, an object or a macro is left out
abbrev pub place_if_type : Definition → Place → List Place
place_if_type (of_type definition) place = place ∷ []
place_if_type definition place = []

-- the name of a definition, if it is of a type
abbrev pub type_defined_by : ℕ → Assignment → List Place
type_defined_by text assignment = place_if_type assignment.definition (place_in text assignment.name)

-- the names of the types that a module defines
abbrev pub types_defined_in : ℕ → Module → List Place
types_defined_in text modules = flat_map (type_defined_by text) modules.assignments.items

-- those of the modules of some texts
abbrev pub type_places : List Source → List Place
type_places = places_from types_defined_in 0
