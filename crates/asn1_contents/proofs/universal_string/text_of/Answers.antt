use Rattle.asn1_contents.proofs.CharactersOfOctets.{one_more}
use Rattle.asn1_contents.proofs.universal_string.text_of.Goals as goal

pub loop-character-preserved : goal.loop-character-preserved
loop-character-preserved c =
    one_more c.args.characters.now c.loop-character.character-index c.character-item.result _ _ c.loop-character-test.true c.character-item.is c.loop-character.invariant c.in_ok-push.ensures.bytes
