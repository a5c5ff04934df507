use Rattle.std.proofs.Common.{◌≡◌, ◌++◌, take}
use Rattle.std.specs.List.{flat_map}
use Rattle.std.specs.String.{string_bytes}
use Rattle.asn1_ldap_text.specs.Attributes.{after_comma}
use Rattle.asn1_ldap_text.proofs.attributes.push_attributes.Given as goal

abbrev pub invariant-loop-attribute : goal.invariant-loop-attribute
invariant-loop-attribute l =
    string_bytes l.text ≡ string_bytes l.initial.text ++ flat_map after_comma (take l.attribute-index l.attributes)
