use Rattle.std.proofs.Common.{◌≡◌, ◌++◌, take}
use Rattle.std.specs.String.{string_bytes}
use Rattle.asn1_certificate_text.specs.Octets.{after_colons}
use Rattle.asn1_certificate_text.proofs.octets.push_after_colons.Given as goal

abbrev pub invariant-loop-octet : goal.invariant-loop-octet
invariant-loop-octet l =
    string_bytes l.text ≡ string_bytes l.initial.text ++ after_colons (take l.octet-index l.octets)
