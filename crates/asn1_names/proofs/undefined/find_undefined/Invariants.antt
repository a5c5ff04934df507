use Rattle.std.proofs.Common.{◌≡◌, take}
use Rattle.std.specs.List.{filter}
use Rattle.asn1_names.specs.References as spec
use Rattle.asn1_names.proofs.undefined.find_undefined.Given as goal

abbrev pub invariant-loop-reference : goal.invariant-loop-reference
invariant-loop-reference l = l.found.items ≡ filter (spec.is_undefined l.defined l.imported) (take l.reference-index l.used)
