use Rattle.std.proofs.Common.{◌≡◌, [], take}
use Rattle.std.specs.List.{All}
use Rattle.asn1_module_check.specs.DistinctTags.{HasDistinctTags}
use Rattle.asn1_module_check.specs.Errors.{IsError}
use Rattle.asn1_module_check.proofs.problems.check_constructed.Given as goal

abbrev pub invariant-loop-constructed : goal.invariant-loop-constructed
invariant-loop-constructed l =
    (l.problems.items ≡ [] → All HasDistinctTags (take l.constructed-index l.list))
    × (All HasDistinctTags l.list → l.problems.items ≡ [])
    × All IsError l.problems.items
