use Rattle.std.proofs.Common.{◌≡◌, ◌++◌, map, take}
use Rattle.std.specs.String.{string_bytes}
use Rattle.asn1_compilation.specs.Messages.{shown}
use Rattle.asn1_compilation.proofs.message.push_octets.Given as goal

abbrev pub invariant-loop-octet : goal.invariant-loop-octet
invariant-loop-octet l = string_bytes l.out ≡ string_bytes l.initial.out ++ map shown (take l.octet-index l.octets)
