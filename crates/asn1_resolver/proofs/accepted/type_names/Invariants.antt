use Rattle.std.proofs.Common.{◌≡◌, map, take}
use Rattle.asn1_resolver.specs.Accepted.{name_of_type}
use Rattle.asn1_resolver.proofs.accepted.type_names.Given as goal

abbrev pub invariant-loop-definition : goal.invariant-loop-definition
invariant-loop-definition l = l.names.items ≡ map name_of_type (take l.definition-index l.types)
