use Rattle.asn1_tokens.proofs.ItemLemmas.{string_splits}
use Rattle.asn1_tokens.proofs.strings.after_character_string.Goals as goal

pub returns-in-Some-clause-string : goal.returns-in-Some-clause-string
returns-in-Some-clause-string c = string_splits c.args.text.now c.in-Some.after.now c.requires.quotation c.in-Some.ensures.rest
