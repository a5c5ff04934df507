use Rattle.asn1_tokens.specs.Words.{is_reserved}
use Rattle.asn1_tokens.proofs.reserved_words.is_reserved.Goals as goal

pub returns : goal.returns
unfolding is_reserved
returns c = c.is_in.ensures
