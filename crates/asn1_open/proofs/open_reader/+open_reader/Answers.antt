use Rattle.std.proofs.Common.{[], Err, Ok, append-nil, inl, refl, sym}
use Rattle.std.specs.Prelude.{Some, codes}
use Rattle.std.proofs.lemmas.Bool.{and_from}
use Rattle.std.proofs.lemmas.Result.{err_from_is_err_and}
use Rattle.asn1_components.specs.Components.{all_components}
use Rattle.asn1_laws.proofs.ReadingComponents.{begin, step, stops, through}
use Rattle.asn1_laws.proofs.ReadingWhole.{both_were_read}
use Rattle.asn1_model.specs.ConstraintSets.{constraint_set, unconstrained}
use Rattle.asn1_open.proofs.OpenLaws.{in_its_box}
use Rattle.asn1_open.specs.OpenAlternatives.{instance_components}
use Rattle.asn1_open.proofs.open_reader.+open_reader.Goals as goal

pub read_components-returns-in_err-type_id-clause-read : goal.read_components-returns-in_err-type_id-clause-read
read_components-returns-in_err-type_id-clause-read g t c = λ v rest outer can of_type valid ends at.
    let p = err_from_is_err_and c.from_residual.result c.from_residual.ensures.1 in
    let start = begin g.D.Decoder.reader _ (all_components instance_components) v rest outer can of_type valid ends at in
    rw (p.1, p.2) (stops start (λ can of_type valid apart at. c.in_err-type_id.ensures.read v.type_id (Some (codes "OBJECT_IDENTIFIER")) _ outer can.1 of_type valid (inl can.0) at))

pub read_components-returns-in_err-value-clause-read : goal.read_components-returns-in_err-value-clause-read
read_components-returns-in_err-value-clause-read g t c = λ v rest outer can of_type valid ends at.
    let p = err_from_is_err_and c.from_residual-in_err-value.result c.from_residual-in_err-value.ensures.1 in
    let start = begin g.D.Decoder.reader _ (all_components instance_components) v rest outer can of_type valid ends at in
    let type_id = step start c.in_ok-type_id.ensures.after_reading.same_depth (λ can of_type valid apart at. c.in_ok-type_id.ensures.read v.type_id (Some (codes "OBJECT_IDENTIFIER")) _ outer can.1 of_type valid (inl can.0) at) in
    rw (p.1, p.2) (stops type_id.next (λ can of_type valid apart at. c.in_err-value.ensures.read v.value (Some (codes "SEQUENCE")) _ outer can.1.1 of_type valid (inl tt) at))

pub read_components-returns-clause-read : goal.read_components-returns-clause-read
read_components-returns-clause-read g t c = λ v rest outer can of_type valid ends at.
    let start = begin g.D.Decoder.reader _ (all_components instance_components) v rest outer can of_type valid ends at in
    let type_id = step start c.in_ok-type_id.ensures.after_reading.same_depth (λ can of_type valid apart at. c.in_ok-type_id.ensures.read v.type_id (Some (codes "OBJECT_IDENTIFIER")) _ outer can.1 of_type valid (inl can.0) at) in
    let value = step type_id.next c.in_ok-value.ensures.after_reading.same_depth (λ can of_type valid apart at. c.in_ok-value.ensures.read v.value (Some (codes "SEQUENCE")) _ outer can.1.1 of_type valid (inl tt) at) in
    through value.next (and_from _ _ type_id.answer value.answer)

pub read_components-returns-clause-only : goal.read_components-returns-clause-only
read_components-returns-clause-only g t c =
    both_were_read g.D.Decoder.reader c.args.decoder.now c.decode.new.decoder c.read_open.new.decoder _ _ _
    (λ rs ss id value. (rs, ss, id, (ss, [], value, refl, sym (append-nil ss)), refl)) c.in_ok-type_id.ensures.only c.in_ok-value.ensures.only

pub read_instance-returns-in_err-open_sequence_at-clause-read : goal.read_instance-returns-in_err-open_sequence_at-clause-read
read_instance-returns-in_err-open_sequence_at-clause-read g t c =
    let p = err_from_is_err_and c.from_residual.result c.from_residual.ensures.1 in
    rw (p.1, p.2) (in_its_box g.D.Decoder.reader _ c.args.decoder.now c.open_sequence_at.new.decoder (Err _) (Err _) (c.in_err-open_sequence_at.ensures.not_read unconstrained) tt refl)

pub read_instance-returns-in_err-instance-clause-read : goal.read_instance-returns-in_err-instance-clause-read
read_instance-returns-in_err-instance-clause-read g t c =
    let p = err_from_is_err_and c.from_residual-in_err-instance.result c.from_residual-in_err-instance.ensures.1 in
    rw (p.1, p.2) (in_its_box g.D.Decoder.reader _ c.args.decoder.now c.close_sequence.new.decoder (Err _) (Err _)
    (c.in_err-instance.ensures.read unconstrained c.args.decoder.now _ c.in_ok-open_sequence_at.ensures.opened c.read_components-components.ensures.read) tt refl)

pub read_instance-returns-in-Ok-clause-read : goal.read_instance-returns-in-Ok-clause-read
read_instance-returns-in-Ok-clause-read g t c =
    in_its_box g.D.Decoder.reader _ c.args.decoder.now c.close_sequence.new.decoder (Ok c.in_ok-instance.instance) (Ok c.in-Ok.instance)
    (c.in_ok-instance.ensures.read unconstrained c.args.decoder.now _ c.in_ok-open_sequence_at.ensures.opened c.read_components-components.ensures.read)
    (c.in_ok-instance.ensures.only unconstrained c.args.decoder.now _ c.in_ok-open_sequence_at.ensures.only c.read_components-components.ensures.only) c.in-Ok.ensures.ok

pub read_instance-returns-in-Ok-clause-same_depth : goal.read_instance-returns-in-Ok-clause-same_depth
read_instance-returns-in-Ok-clause-same_depth g t c =
    (c.in_ok-instance.ensures.after_reading unconstrained c.args.decoder.now _ c.in_ok-open_sequence_at.ensures.opened c.read_components-components.ensures.same_depth).same_depth

pub read_open-returns-clause-after_reading : goal.read_open-returns-clause-after_reading
read_open-returns-clause-after_reading g t c =
    c.close_choice.ensures.after_reading (constraint_set c.args.constraints.now) c.args.decoder.now _ c.in_ok-index.index c.in_ok-index.ensures.opened c.read_alternative-value.ensures.same_depth

pub read_open-returns-clause-only : goal.read_open-returns-clause-only
read_open-returns-clause-only g t c =
    c.close_choice.ensures.only (constraint_set c.args.constraints.now) c.args.decoder.now _ c.in_ok-index.index c.in_ok-index.ensures.only c.read_alternative-value.ensures.read
