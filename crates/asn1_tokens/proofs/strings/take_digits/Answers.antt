use Rattle.std.proofs.Common.{refl, arith}
use Rattle.asn1_tokens.proofs.ItemLemmas.{digits_split, no_digits, unclosed_digits}
use Rattle.asn1_tokens.proofs.strings.take_digits.Goals as goal

pub returns-then-end-inside-clause-string : goal.returns-then-end-inside-clause-string
returns-then-end-inside-clause-string c = (c.requires.quote, unclosed_digits c.args.text.now _ c.apostrophe_index-end.ensures.index c.if-end-inside.true)

pub returns-in-Some-clause-string : goal.returns-in-Some-clause-string
returns-in-Some-clause-string c =
    digits_split c.args.text.now _ _ _ _ _ c.in-Some.kind c.requires.quote refl c.apostrophe_index-end.ensures.index (omega arith) refl c.first.ensures.value
    c.in-Some.ensures.letter refl c.in-Some.ensures.kind

pub returns-in-None-clause-string : goal.returns-in-None-clause-string
returns-in-None-clause-string c = no_digits c.args.text.now _ _ _ _ c.requires.quote refl c.apostrophe_index-end.ensures.index (omega arith) refl c.first.ensures.value c.in-None.ensures.kind
