use Rattle.std.proofs.Common.{◌++◌, sym, ap, ◌∙◌}
use Rattle.std.specs.Char.{is_ascii_alphabetic}
use Rattle.asn1_tokens.specs.Characters.{first}
use Rattle.asn1_tokens.specs.Items.{is_spelled_as_name}
use Rattle.asn1_tokens.proofs.ItemLemmas.{name_ends, name_first, name_parts, name_spelled, word_is}
use Rattle.asn1_tokens.proofs.names.take_word.Goals as goal

pub word_kind-requires-clause-letter : goal.word_kind-requires-clause-letter
word_kind-requires-clause-letter c =
    ap (λ word. is_ascii_alphabetic (first word)) (word_is c.args.text.now c.after_name-after.result.now c.after_name-after.ensures.rest)
    ∙ ap is_ascii_alphabetic (name_first c.args.text.now c.requires.letter) ∙ c.requires.letter

pub word_kind-requires-clause-spelled : goal.word_kind-requires-clause-spelled
word_kind-requires-clause-spelled c =
    ap is_spelled_as_name (word_is c.args.text.now c.after_name-after.result.now c.after_name-after.ensures.rest) ∙ name_spelled c.args.text.now

pub returns-clause-item : goal.returns-clause-item
returns-clause-item c =
    let word = word_is c.args.text.now c.after_name-after.result.now c.after_name-after.ensures.rest in (
      _,
      name_parts c.args.text.now ∙ (λ i. sym word i ++ sym c.after_name-after.ensures.rest i),
      c.word_kind.ensures.item,
    )

pub returns-clause-ends : goal.returns-clause-ends
returns-clause-ends c = c.word_kind.ensures.ends _ _ (name_ends c.args.text.now c.after_name-after.result.now c.after_name-after.ensures.rest)
