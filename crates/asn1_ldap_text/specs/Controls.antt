-- Controls (RFC 4511, 4.1.11).
use Rattle.std.specs.Prelude.{ℕ, Bool, false, true, List, [], ◌++◌, None, Option, Some, Vec, codes}
use Rattle.std.specs.declared.alloc.Global.{Global}
use Rattle.std.specs.List.{flat_map}
use Rattle.asn1_ldap.specs.declared.control.Control.{Control}
use Rattle.asn1_ldap_text.specs.Lengths.{optional_length}
use Rattle.asn1_ldap_text.specs.Strings.{word}

-- whether a control is critical
abbrev pub critical_text : Bool → List ℕ
critical_text true = codes ", critical"
critical_text false = []

-- the same, and the length of its value
abbrev pub criticality_text : Control → List ℕ
criticality_text c = critical_text c.criticality ++ optional_length (codes ", value") c.control_value

-- the line of a control
abbrev pub control_line : Control → List ℕ
control_line c = codes "  control " ++ (word c.control_type ++ (criticality_text c ++ codes "\n"))

-- the lines of all, if there are any
abbrev pub controls_lines : Option (Vec Control Global) → List ℕ
controls_lines (Some controls) = flat_map control_line controls.items
controls_lines None = []
