use Rattle.std.proofs.Common.{◌∙◌, ap, refl, sym}
use Rattle.std.specs.Ordering.{ordering_reverse}
use Rattle.std.proofs.lemmas.Cmp.{int_cmp_total}
use Rattle.asn1_integers.specs.Numbers.{magnitude}
use Rattle.asn1_integers.proofs.Signs.{int_cmp-wide}
use Rattle.asn1_integers.proofs.integer.order.IntegerOrd.cmp.Goals as goal

pub returns-in-Wide-representation : goal.returns-in-Wide-representation
returns-in-Wide-representation c =
    let fits = rw c.in-Narrow.is at c.self.invariant in
    let narrow = rw c.in-Narrow.is at c.self.view_is in
    let wide = rw c.in-Wide-representation.is at c.other.view_is in
    let form = rw c.in-Wide-representation.is at c.other.invariant in
    c.zero_to.ensures ∙ rw (← narrow, ← wide) (int_cmp-wide c.in-Wide-representation.negative (magnitude c.in-Wide-representation.bytes.items) c.in-Narrow.number fits form.too_wide)

pub returns-in-Narrow-representation-2 : goal.returns-in-Narrow-representation-2
returns-in-Narrow-representation-2 c =
    let fits = rw c.in-Narrow-representation-2.is at c.other.invariant in
    let narrow = rw c.in-Narrow-representation-2.is at c.other.view_is in
    let wide = rw c.in-Wide.is at c.self.view_is in
    let form = rw c.in-Wide.is at c.self.invariant in
    let order = c.zero_to-in-Narrow-representation-2.ensures ∙ int_cmp-wide c.in-Wide.negative (magnitude c.in-Wide.bytes.items) c.in-Narrow-representation-2.field-0 fits form.too_wide in
    c.reverse.ensures ∙ ap ordering_reverse (order ∙ rw (narrow, wide) refl) ∙ sym (int_cmp_total.antisymm c.args.self.now c.args.other.now)
