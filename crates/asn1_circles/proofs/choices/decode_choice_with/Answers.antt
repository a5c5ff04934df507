use Rattle.asn1_model.specs.ConstraintSets.{constraint_set}
use Rattle.asn1_circles.proofs.choices.decode_choice_with.Goals as goal

pub returns-clause-as_component : goal.returns-clause-as_component
returns-clause-as_component g c =
    let t = constraint_set c.args.constraints.now in
    let after = c.close_choice.ensures.after_reading t c.args.decoder.now _ _ c.in-Ok.ensures.opened c.decode_alternative_with-alternative.ensures.same_depth in
    record {
      read = c.close_choice.ensures.read t c.args.decoder.now _ _ c.in-Ok.ensures.opened c.decode_alternative_with-alternative.ensures.read;
      only = c.close_choice.ensures.only t c.args.decoder.now _ _ c.in-Ok.ensures.only c.decode_alternative_with-alternative.ensures.read;
      same_depth = after.same_depth;
      failed_as_before = after.failed_as_before;
    }
