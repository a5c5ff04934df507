-- The places of the names of objects and object sets that modules define (X.681, 11.1 and 12.1).
use Rattle.std.specs.Prelude.{ℕ, List, [], ◌∷◌}
use Rattle.std.specs.List.{flat_map}
use Rattle.asn1_modules.specs.Places.{place_in, places_from}
use Rattle.asn1_modules.specs.declared.source.Source.{Source}
use Rattle.asn1_names.specs.declared.names.Place.{Place}
use Rattle.asn1_notation.specs.declared.modules.Assignment.{Assignment}
use Rattle.asn1_notation.specs.declared.modules.Definition.{Definition}
use Rattle.asn1_notation.specs.declared.modules.Definition.TheVariants.{Object as of_object}
use Rattle.asn1_notation.specs.declared.modules.Module.{Module}
use Rattle.asn1_objects.specs.declared.definitions.ObjectDefinition.{ObjectDefinition}

-- the place of a definition of an object or a set
abbrev pub place_if_object : Definition → Place → List Place
place_if_object (of_object class braces) place = place ∷ []
place_if_object definition place = []

-- the name of a definition, if it is of an object or a set
abbrev pub object_defined_by : ℕ → Assignment → List Place
object_defined_by text assignment = place_if_object assignment.definition (place_in text assignment.name)

-- the names of the objects and sets that a module defines
abbrev pub objects_defined_in : ℕ → Module → List Place
objects_defined_in text modules = flat_map (object_defined_by text) modules.assignments.items

-- those of the modules of some texts
abbrev pub object_places : List Source → List Place
object_places = places_from objects_defined_in 0

-- the place of the name of a definition that was read
abbrev pub place_of : ObjectDefinition → Place
place_of definition = place_in definition.home.source definition.name
