use Rattle.std.proofs.Common.{refl, arith}
use Rattle.asn1_tokens.proofs.TokenLemmas.{item_shortens, token_taken}
use Rattle.asn1_tokens.proofs.token.next_token.Goals as goal

pub returns-in-Ok-take_item-clause-token : goal.returns-in-Ok-take_item-clause-token
returns-in-Ok-take_item-clause-token c =
    token_taken c.args.size c.args.text.now c.in-Ok.rest.now c.in-Ok-take_item.after.now _ c.in-Ok.ensures.skipped c.in-Ok.ensures.ended c.in-Ok-take_item.ensures.item c.in-Ok-take_item.ensures.ends
    (omega (arith, c.in-Ok.ensures.within, c.requires.within)) refl refl

pub returns-in-Ok-take_item-clause-shorter : goal.returns-in-Ok-take_item-clause-shorter
returns-in-Ok-take_item-clause-shorter c =
    omega (arith, item_shortens c.in-Ok-take_item.kind c.in-Ok.rest.now c.in-Ok-take_item.after.now c.in-Ok-take_item.ensures.item, c.in-Ok.ensures.within)
