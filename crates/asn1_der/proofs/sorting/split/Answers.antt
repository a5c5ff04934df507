use Rattle.std.proofs.Common.{rules}
use Rattle.std.proofs.lemmas.List.{nil_from_length}
use Rattle.asn1_der.proofs.Pieces.{all_cut, next_is}
use Rattle.asn1_der.proofs.sorting.split.Goals as goal

pub returns-in_default : goal.returns-in_default
returns-in_default c = λ elements joined.
    let n = next_is c.args.order elements c.loop-left.pieces.items c.loop-left.left.now (λ none. search rules) (c.loop-left.invariant elements joined) in
    absurd (c.in_default.ensures.found n.own n.back n.one n.is)

pub loop-left-preserved : goal.loop-left-preserved
loop-left-preserved c = λ elements joined.
    let n = next_is c.args.order elements c.loop-left.pieces.items c.loop-left.left.now (λ none. search rules) (c.loop-left.invariant elements joined) in
    n.after c.in-Some.cut c.push.new.self.items c.in_default-push.ensures.items (c.in-Some.ensures.found n.own n.back n.one n.is)

pub returns : goal.returns
returns c = λ elements joined. all_cut c.args.order elements c.loop-left.pieces.items c.loop-left.left.now (nil_from_length c.loop-left.left.now (search rules)) (c.loop-left.invariant elements joined)
