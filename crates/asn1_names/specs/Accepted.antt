-- What is wrong with the names of a set of modules.
use Rattle.std.specs.Prelude.{◌++◌, List, [], map}
use Rattle.std.specs.List.{All, AllPairs, filter}
use Rattle.asn1_names.specs.declared.names.Names.{Names}
use Rattle.asn1_names.specs.declared.problems.NameProblem.{NameProblem}
use Rattle.asn1_names.specs.declared.problems.NameProblem.TheVariants.{Doubled, UnknownImport, Undefined}
use Rattle.asn1_names.specs.Distinct.{IsDistinct, doubled}
use Rattle.asn1_names.specs.Imports.{IsKnown, is_unknown}
use Rattle.asn1_names.specs.References.{IsResolved, is_undefined}

-- No module has a name twice, every import is of a name that is defined, and every reference is to a definition.
pub record IsAccepted (names : Names) : Type 0 where
  pub distinct : AllPairs IsDistinct names.defined.items
  pub known : All (IsKnown names.defined.items) names.imported.items
  pub resolved : All (IsResolved names.defined.items names.imported.items) names.used.items

-- the names that are defined twice, those that are imported and not defined, and those that are used and not defined
abbrev pub problems : Names → List NameProblem
problems names =
    map Doubled (doubled [] names.defined.items)
    ++ (map UnknownImport (filter (is_unknown names.defined.items) names.imported.items)
    ++ map Undefined (filter (is_undefined names.defined.items names.imported.items) names.used.items))
