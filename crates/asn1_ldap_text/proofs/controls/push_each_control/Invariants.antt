use Rattle.std.proofs.Common.{◌≡◌, ◌++◌, take}
use Rattle.std.specs.List.{flat_map}
use Rattle.std.specs.String.{string_bytes}
use Rattle.asn1_ldap_text.specs.Controls.{control_line}
use Rattle.asn1_ldap_text.proofs.controls.push_each_control.Given as goal

abbrev pub invariant-loop-control : goal.invariant-loop-control
invariant-loop-control l =
    string_bytes l.text ≡ string_bytes l.initial.text ++ flat_map control_line (take l.control-index l.controls)
