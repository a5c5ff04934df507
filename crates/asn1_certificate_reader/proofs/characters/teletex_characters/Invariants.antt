use Rattle.std.proofs.Common.{◌≡◌, map, take}
use Rattle.asn1_certificate_reader.specs.Characters.{teletex_character}
use Rattle.asn1_certificate_reader.proofs.characters.teletex_characters.Given as goal

abbrev pub invariant-loop-unit : goal.invariant-loop-unit
invariant-loop-unit l = l.characters.items ≡ map teletex_character (take l.unit-index l.units)
