use Rattle.asn1_contents.proofs.CharactersOfOctets.{universal_strings}
use Rattle.asn1_contents.proofs.laws.octets_of_universal_strings_are_characters.Goals as goal

pub returns : goal.returns
returns c = universal_strings
