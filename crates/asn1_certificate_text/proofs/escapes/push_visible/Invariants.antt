use Rattle.std.proofs.Common.{◌≡◌, ◌++◌, take}
use Rattle.std.specs.List.{flat_map}
use Rattle.std.specs.String.{string_bytes}
use Rattle.asn1_certificate_text.specs.Escapes.{visible}
use Rattle.asn1_certificate_text.proofs.escapes.push_visible.Given as goal

abbrev pub invariant-loop-character : goal.invariant-loop-character
invariant-loop-character l =
    string_bytes l.text ≡ string_bytes l.initial.text ++ flat_map visible (take l.character-index l.characters)
