-- Schemas that are accepted.
use Rattle.std.specs.Prelude.{◌++◌, Bool, true, false, List, map, take}
use Rattle.std.specs.List.{AllPairs, list_all}
use Rattle.asn1_names.specs.Distinct.{IsDistinct}
use Rattle.asn1_names.specs.declared.names.DefinedName.{DefinedName}
use Rattle.asn1_resolved.specs.declared.problem.Problem.{Problem}
use Rattle.asn1_resolved.specs.declared.problem.Severity.{Severity}
use Rattle.asn1_resolved.specs.declared.problem.Severity.TheVariants.{Error, Warning}
use Rattle.asn1_resolved.specs.declared.schema.Schema.{Schema}
use Rattle.asn1_resolved.specs.declared.schema.TypeDefinition.{TypeDefinition}
use Rattle.asn1_resolved.specs.declared.schema.ValueDefinition.{ValueDefinition}

-- whether modules with a problem of this severity can be used
abbrev pub is_warning : Severity → Bool
is_warning Error = false
is_warning Warning = true

-- whether no problem is an error
abbrev pub accepts : List Problem → Bool
accepts problems = list_all (λ problem. is_warning problem.severity) problems

-- the name of a definition, with its module and its place
abbrev pub name_of_type : TypeDefinition → DefinedName
name_of_type definition = record { «module» = definition.module; name = definition.name; place = definition.place }

abbrev pub name_of_value : ValueDefinition → DefinedName
name_of_value definition = record { «module» = definition.module; name = definition.name; place = definition.place }

-- the names of the definitions, those of types first; a type that arguments complete has no name of its own
abbrev pub defined_names : Schema → List DefinedName
defined_names schema = map name_of_type (take schema.defined schema.types.items) ++ map name_of_value schema.values.items

-- No module has a name twice (X.680, 13.15).
abbrev pub HasDistinctNames : Schema → Type 0
HasDistinctNames schema = AllPairs IsDistinct (defined_names schema)
