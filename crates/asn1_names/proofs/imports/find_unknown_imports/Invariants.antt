use Rattle.std.proofs.Common.{◌≡◌, take}
use Rattle.std.specs.List.{filter}
use Rattle.asn1_names.specs.Imports as spec
use Rattle.asn1_names.proofs.imports.find_unknown_imports.Given as goal

abbrev pub invariant-loop-import : goal.invariant-loop-import
invariant-loop-import l = l.found.items ≡ filter (spec.is_unknown l.defined) (take l.import-index l.imported)
