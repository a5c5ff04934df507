use Rattle.std.proofs.Common.{◌≡◌, ◌++◌, take, map}
use Rattle.asn1_names.specs.declared.problems.NameProblem.TheVariants.{Doubled, UnknownImport, Undefined}
use Rattle.asn1_names.proofs.problems.list_problems.Given as goal

abbrev pub invariant-loop-name : goal.invariant-loop-name
invariant-loop-name l = l.found.items ≡ map Doubled (take l.name-index l.name-items)

abbrev pub invariant-loop-import : goal.invariant-loop-import
invariant-loop-import l = l.found.items ≡ l.initial.found.items ++ map UnknownImport (take l.import-index l.import-items)

abbrev pub invariant-loop-reference : goal.invariant-loop-reference
invariant-loop-reference l = l.found.items ≡ l.initial.found.items ++ map Undefined (take l.reference-index l.reference-items)
