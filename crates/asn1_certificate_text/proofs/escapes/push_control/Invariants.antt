use Rattle.std.proofs.Common.{◌≡◌, ◌++◌, take}
use Rattle.std.specs.List.{flat_map}
use Rattle.std.specs.String.{string_bytes}
use Rattle.asn1_certificate_text.specs.Escapes.{octet_escaped}
use Rattle.asn1_certificate_text.proofs.escapes.push_control.Given as goal

abbrev pub invariant-loop-octet : goal.invariant-loop-octet
invariant-loop-octet l =
    string_bytes l.text ≡ string_bytes l.initial.text ++ flat_map octet_escaped (take l.octet-index l.octet-items)
