use Rattle.std.proofs.Common.{ap, ◌∙◌}
use Rattle.asn1_contents.specs.UniversalStrings.{universal_characters}
use Rattle.asn1_contents.proofs.CharactersOfOctets.{before, one_character, rest_is}
use Rattle.asn1_contents.proofs.universal_string.universal_characters.Goals as goal

pub loop-left-preserved : goal.loop-left-preserved
loop-left-preserved c = record {
  so_far =
      ap (λ rest. before c.push.new.self.items (universal_characters rest)) (rest_is 4 c.loop-left.left.now c.in-len4-up.len_at_least)
      ∙ one_character c.loop-left.left.now c.loop-left.characters.items c.push.new.self.items c.from_be_bytes.result c.in-Some.character c.in-len4-up.len_at_least c.from_be_bytes.ensures c.in-Some.ensures.value c.in_ok-push.ensures.items
      ∙ c.loop-left.invariant.so_far;
}
