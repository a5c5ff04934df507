use Rattle.std.proofs.Common.{◌≡◌, ◌++◌, take}
use Rattle.std.specs.String.{string_bytes}
use Rattle.asn1_ldap_text.specs.Escapes.{escaped_text}
use Rattle.asn1_ldap_text.proofs.escapes.push_escaped.Given as goal

abbrev pub invariant-loop-octet : goal.invariant-loop-octet
invariant-loop-octet l =
    string_bytes l.text ≡ string_bytes l.initial.text ++ escaped_text l.place (take l.octet-index l.octets)
