use Rattle.std.proofs.Common.{◌++◌, ap, sym, ◌∙◌}
use Rattle.std.proofs.lemmas.List.{take_all}
use Rattle.asn1_ber_items.specs.Segments.{joined, octets_of_each}
use Rattle.asn1_ber_items.proofs.Joined.{joined-last, joined_next}
use Rattle.asn1_ber_items.proofs.segments.Segments.join.Goals as goal

pub loop-segment-preserved : goal.loop-segment-preserved
loop-segment-preserved c =
    let all = c.deref-segment-items.result.now in
    let index = c.loop-segment.segment-index in
    let segment = c.segment-item.result in
    c.in_ok-extend_from_slice.ensures.items ∙ ap (λ l. c.loop-segment.whole.items ++ l) c.as_slice.ensures.value ∙ ap (λ l. l ++ segment.items) c.loop-segment.invariant
    ∙ sym (joined_next all segment index c.segment-item.is c.loop-segment-test.true)

pub returns : goal.returns
returns c =
    let all = c.deref-segment-items.result.now in
    let full = c.args.self.full.items in
    let last = c.args.self.last.items in
    c.in_ok-extend_from_slice-2.ensures.items ∙ ap (λ l. c.loop-segment.whole.items ++ l) c.as_slice-2.ensures.value
    ∙ ap (λ l. l ++ last) (c.loop-segment.invariant ∙ ap (λ l. joined (octets_of_each l)) (take_all c.loop-segment.segment-index all c.loop-segment-test.false ∙ c.deref-segment-items.ensures.value))
    ∙ sym (joined-last (octets_of_each full) last)
