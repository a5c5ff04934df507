use Rattle.std.proofs.Common.{ap, subst, ◌∙◌}
use Rattle.std.specs.List.{flat_map}
use Rattle.std.specs.List.Sorted.{IsSorted}
use Rattle.asn1_der.specs.Sorting.{piece_cmp}
use Rattle.asn1_der.proofs.Ordering.{sorted_as_they_are, sorted_pieces}
use Rattle.asn1_der.proofs.sorting.sorted_elements.Goals as goal

pub returns-then-are_in_order : goal.returns-then-are_in_order
returns-then-are_in_order c = λ elements joined.
    sorted_as_they_are c.args.order elements c.in_ok-pieces.pieces.items c.args.inside.now joined (c.in_ok-pieces.ensures elements joined) (subst (IsSorted piece_cmp) c.deref.ensures.value (c.are_in_order.ensures c.if-are_in_order.true))

pub returns : goal.returns
returns c = λ elements joined.
    sorted_pieces c.args.order elements c.in_ok-pieces.pieces.items c.sort.new.self.items c.in_ok-joined.field-0.items (c.in_ok-pieces.ensures elements joined) c.sort.ensures.permutation c.in_ok-sort.ensures.sorted
    (c.in_ok-joined.ensures ∙ ap (flat_map (λ p. p.bytes.now)) c.deref-2.ensures.value)
