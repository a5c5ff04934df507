use Rattle.std.proofs.Common.{◌∙◌, ap}
use Rattle.std.specs.Ordering.{is_ge}
use Rattle.asn1_der.proofs.Ordering.{piece_order}
use Rattle.asn1_der.proofs.sorting.may_follow.Goals as goal

pub returns : goal.returns
returns c = c.is_ge.ensures ∙ ap is_ge (c.cmp.ensures ∙ piece_order c.args.second.now c.args.first.now)
