use Rattle.std.proofs.Common.{◌≡◌, ◌+◌, ◌*◌, ◌<◌, ◌++◌, ◌∷◌, [], Some, None, ap, arith, get_or, length, subst, sym, ◌∙◌}
use Rattle.std.proofs.lemmas.Option.{slice_get-get_or}
use Rattle.asn1_convert.proofs.Digits.{AreReadTo, first_taken, second_taken, ends_odd, stops_at}
use Rattle.asn1_convert.proofs.hexadecimal.octets_of_digits.Goals as goal
use Rattle.asn1_convert.proofs.hexadecimal.octets_of_digits.Goals.{in-None, in-Some-high+else-is_err}

pub loop-position-preserved : goal.loop-position-preserved
loop-position-preserved c =
    let text = c.args.text.now in
    let p = c.loop-position.position in
    let octets = c.loop-position.octets.items in
    let digit = c.in-Some.digit in
    let within : p < length text = omega arith in
    let no_space = sym c.if-is_ascii_whitespace.ensures.value in
    let is = c.in-Some.ensures in
    elim c.match-high.branch [
      | in-None w ↦ rw (w.octets-is, w.high-is) (first_taken text p octets within digit is.below no_space is.digit is.value (subst (λ h. AreReadTo text p octets h) w.in-None.is c.loop-position.invariant))
      | in-Some-high+else-is_err w ↦
          let pushed : c.match-high.octets.items ≡ octets ++ (w.in-Some-high.first * 16 + digit) ∷ [] =
          ap (λ v. v.items) w.octets-is ∙ (rw w.if-is_err.ensures.negation at w.push.ensures.items) in
          rw (pushed, w.high-is) (second_taken text p octets within digit is.below no_space is.digit is.value w.in-Some-high.first (subst (λ h. AreReadTo text p octets h) w.in-Some-high.is c.loop-position.invariant))
    ]

pub returns-in_default-clause-fault : goal.returns-in_default-clause-fault
returns-in_default-clause-fault c =
    let text = c.args.text.now in
    let p = c.loop-position.position in
    let within : p < length text = omega arith in
    stops_at text p c.loop-position.octets.items c.loop-position.high c.loop-position.invariant (get_or text p 0) (slice_get-get_or text p 0 within)
    (sym c.if-is_ascii_whitespace.ensures.value) c.in_default.ensures.digit

pub returns-in-Some-high-2-clause-fault : goal.returns-in-Some-high-2-clause-fault
returns-in-Some-high-2-clause-fault c =
    let end : c.loop-position.position ≡ length c.args.text.now = omega arith in
    rw (sym end) (ends_odd c.args.text.now c.loop-position.position c.loop-position.octets.items c.loop-position.high c.loop-position.invariant c.in-Some-high-2.field-0 c.in-Some-high-2.is end)
