use Rattle.std.proofs.Common.{rules}
use Rattle.std.proofs.lemmas.List.Sorted.{answers_always}
use Rattle.std.specs.Ordering.{is_ge}
use Rattle.asn1_der.specs.Sorting.{piece_cmp}
use Rattle.asn1_der.proofs.Ordering.{neighbours_sorted}
use Rattle.asn1_der.proofs.sorting.are_in_order.Goals as goal

pub returns : goal.returns
returns c =
    neighbours_sorted c.args.pieces.now c.is_sorted_by.result
    (c.is_sorted_by.ensures.cases (λ p q. is_ge (piece_cmp q p)) (answers_always _ _ _ (λ f a r q k. search rules)))
