use Rattle.asn1_contents.proofs.CharactersOfOctets.{text_of_octets}
use Rattle.asn1_contents.proofs.universal_string.ContentsString+UniversalCharacters.text.Goals as goal

pub returns : goal.returns
returns c =
    text_of_octets c.args.self.now _ c.as_slice.result.now _ c.in_ok-characters.ensures c.as_slice.ensures.value c.in_ok-text.ensures
