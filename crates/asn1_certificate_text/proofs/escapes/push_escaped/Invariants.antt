use Rattle.std.proofs.Common.{◌≡◌, ◌++◌}
use Rattle.std.specs.String.{string_bytes}
use Rattle.asn1_certificate_text.specs.Escapes.{escaped_first}
use Rattle.asn1_certificate_text.proofs.escapes.push_escaped.Given as goal

abbrev pub invariant-loop-i : goal.invariant-loop-i
invariant-loop-i l = string_bytes l.text ≡ string_bytes l.initial.text ++ escaped_first l.characters l.i
