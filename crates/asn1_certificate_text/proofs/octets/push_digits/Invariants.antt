use Rattle.std.proofs.Common.{◌≡◌, ◌++◌, take}
use Rattle.std.specs.List.{flat_map}
use Rattle.std.specs.String.{string_bytes}
use Rattle.asn1_values.specs.Text.{byte_text}
use Rattle.asn1_certificate_text.proofs.octets.push_digits.Given as goal

abbrev pub invariant-loop-octet : goal.invariant-loop-octet
invariant-loop-octet l =
    string_bytes l.text ≡ string_bytes l.initial.text ++ flat_map byte_text (take l.octet-index l.octets)
