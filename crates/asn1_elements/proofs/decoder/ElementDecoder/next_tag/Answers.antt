use Rattle.std.proofs.Common.{ap, ◌∙◌}
use Rattle.asn1_der_items.specs.Elements.{element_at}
use Rattle.asn1_elements.proofs.PresenceByTag.{element_tells, end_tells, found_tag, has_element}
use Rattle.asn1_elements.proofs.decoder.ElementDecoder.next_tag.Goals as goal

pub returns-then-is_at_end-clause-found : goal.returns-then-is_at_end-clause-found
returns-then-is_at_end-clause-found g c = λ rs no_failure left. end_tells g.met.F.ElementForm.lawful c.args.self.now.state.slices rs (c.is_at_end.ensures.at_end.0 c.if-is_at_end.true) left

pub returns-in-Ok-clause-found : goal.returns-in-Ok-clause-found
returns-in-Ok-clause-found g c = λ rs no_failure left.
    element_tells g.met.F.ElementForm.lawful c.args.self.now.state.slices c.in-Ok.element.tag rs (λ none. let wrong = c.is_at_end.ensures.at_end.1 none in cc)
    (found_tag c.args.self.now.state.slices c.left.result.now _ c.left.ensures.inside c.in-Ok.ensures.only) left

pub returns-in-Err-clause-found : goal.returns-in-Err-clause-found
returns-in-Err-clause-found g c = λ rs no_failure left.
    absurd (has_element g.met.F.ElementForm.lawful c.args.self.now.state.slices rs (λ none. let wrong = c.is_at_end.ensures.at_end.1 none in cc)
    (λ e at. let wrong = c.in-Err.ensures.found e (ap element_at c.left.ensures.inside ∙ at) in cc) left)
