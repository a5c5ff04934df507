use Rattle.std.proofs.Common.{◌≡◌, List, ℕ, true, false, ap, sym, subst, ◌∙◌}
use Rattle.std.specs.Prelude.{pos, IfOk}
use Rattle.asn1_values.specs.Numbers.{IsShortest, magnitude, signed}
use Rattle.asn1_items.specs.Numbers.{Appended}
use Rattle.asn1_der_items.specs.Integers.{IsComplement, IsInteger}
use Rattle.asn1_der_items.proofs.Complements.{some_magnitude}
use Rattle.asn1_der_items.proofs.integers.append_signed.Goals as goal

pub returns-then-negative : goal.returns-then-negative
returns-then-negative c = λ z sign is shortest.
    let digits = c.args.digits.items in
    let own : signed true (magnitude digits) ≡ z = sym (ap (λ b. signed b (magnitude digits)) c.if-negative.true) ∙ is in
    let below = sign.0 c.if-negative.true in
    let P : List ℕ → Type 0 = λ l. IsComplement digits l in
    let complement = subst P (sym c.as_slice-complement.ensures.value) (c.negated-octets.ensures (some_magnitude (magnitude digits) z own below)) in
    subst (λ w. IfOk c.append_negative.result (λ _. Appended (IsInteger w) c.args.bytes.now.items c.append_negative.new.bytes.items)) own (c.append_negative.ensures digits shortest complement)

pub returns : goal.returns
returns c = λ z sign is shortest.
    let digits = c.args.digits.items in
    let own : signed false (magnitude digits) ≡ z = sym (ap (λ b. signed b (magnitude digits)) c.if-negative.false) ∙ is in
    let lent = c.as_slice-natural.result.now in
    let same : pos (magnitude lent) ≡ z = ap (λ l. pos (magnitude l)) c.as_slice-natural.ensures.value ∙ own in
    subst (λ w. IfOk c.append_natural.result (λ _. Appended (IsInteger w) c.args.bytes.now.items c.append_natural.new.bytes.items)) same (c.append_natural.ensures (subst IsShortest (sym c.as_slice-natural.ensures.value) shortest))
