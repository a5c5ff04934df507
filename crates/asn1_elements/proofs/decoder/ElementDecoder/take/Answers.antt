use Rattle.std.proofs.Common.{◌≡◌, Some, refl, subst, ◌∙◌, arith}
use Rattle.asn1_der_items.specs.Elements.{element_at, element_of}
use Rattle.asn1_der_items.proofs.TrailingBytes.{element_at-shorter}
use Rattle.asn1_elements.proofs.ParsedElements.{is_found, was_taken}
use Rattle.asn1_elements.proofs.decoder.ElementDecoder.take.Goals as goal

pub returns-in-Ok-clause-took : goal.returns-in-Ok-clause-took
returns-in-Ok-clause-took g c = λ own back e no_failure alone is.
    was_taken _ e _ own back c.left-left.result.now _ alone (c.left-left.ensures.inside ∙ is) c.in-Ok.ensures.only refl refl refl refl c.advance_to.ensures.inside

pub returns-in-Err-clause-took : goal.returns-in-Err-clause-took
returns-in-Err-clause-took g c = λ own back e no_failure alone is.
    absurd (is_found e own back c.left-left.result.now alone (c.left-left.ensures.inside ∙ is) (λ e at. let wrong = c.in-Err.ensures.found e at in cc))

pub slice_bounds-result-count : goal.slice_bounds-result-count
slice_bounds-result-count g c = omega (arith, element_at-shorter c.left-left.result.now _ c.in-Ok.ensures.only)

pub returns-in-Ok-clause-only : goal.returns-in-Ok-clause-only
returns-in-Ok-clause-only g c =
    let e = element_of c.in-Ok.element in
    record { rest = e.rest; at = subst (λ l. element_at l ≡ Some e) c.left-left.ensures.inside c.in-Ok.ensures.only }
