use Rattle.std.proofs.lemmas.Str.{IsUtf8-string_bytes}
use Rattle.asn1_contents.proofs.CharactersOfOctets.{same_text}
use Rattle.asn1_contents.proofs.laws.universal_strings_are_their_texts.Goals as goal

pub returns : goal.returns
returns c =
    same_text c.in_ok-own.own c.args.text.now _ c.utf8.text (IsUtf8-string_bytes c.in_ok-read.read) c.in_ok-own.ensures c.in_ok-read.ensures
