use Rattle.std.proofs.Common.{◌≡◌, ◌++◌, take}
use Rattle.std.specs.List.{flat_map}
use Rattle.std.specs.String.{string_bytes}
use Rattle.asn1_ldap_text.specs.Changes.{change_text}
use Rattle.asn1_ldap_text.proofs.changes.push_changes.Given as goal

abbrev pub invariant-loop-change : goal.invariant-loop-change
invariant-loop-change l =
    string_bytes l.text ≡ string_bytes l.initial.text ++ flat_map change_text (take l.change-index l.changes)
