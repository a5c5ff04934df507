use Rattle.std.specs.Prelude.{None, Some, codes}
use Rattle.std.proofs.Common.{[], append-nil, inl, refl, sym}
use Rattle.std.proofs.lemmas.Bool.{and_from}
use Rattle.std.proofs.lemmas.Result.{err_from_is_err_and}
use Rattle.asn1_components.specs.Components.{all_components}
use Rattle.asn1_samples.specs.contracts.envelope.EnvelopeFieldTable.TheImpl.{ghosts as envelope}
use Rattle.asn1_laws.proofs.ReadingComponents.{begin, step, stops, through}
use Rattle.asn1_laws.proofs.ReadingWhole.{both_were_read}
use Rattle.asn1_samples.proofs.envelope.EnvelopeDecodeFields.decode_fields.Goals as goal

pub returns-in_err-kind-clause-read : goal.returns-in_err-kind-clause-read
returns-in_err-kind-clause-read g c = λ v rest outer can of_type valid ends at.
    let p = err_from_is_err_and c.from_residual.result c.from_residual.ensures.1 in
    let start = begin g.D.Decoder.reader _ (all_components envelope.components) v rest outer can of_type valid ends at in
    rw (p.1, p.2) (stops start (λ can of_type valid apart at. c.in_err-kind.ensures.read v.kind (Some (codes "INTEGER")) _ outer can.1 of_type valid (inl can.0) at))

pub returns-in_err-body-clause-read : goal.returns-in_err-body-clause-read
returns-in_err-body-clause-read g c = λ v rest outer can of_type valid ends at.
    let p = err_from_is_err_and c.from_residual-in_err-body.result c.from_residual-in_err-body.ensures.1 in
    let start = begin g.D.Decoder.reader _ (all_components envelope.components) v rest outer can of_type valid ends at in
    let kind = step start c.in_ok-kind.ensures.after_reading.same_depth (λ can of_type valid apart at. c.in_ok-kind.ensures.read v.kind (Some (codes "INTEGER")) _ outer can.1 of_type valid (inl can.0) at) in
    rw (p.1, p.2) (stops kind.next (λ can of_type valid apart at. c.in_err-body.ensures.read v.body None _ outer can.1 of_type valid (inl can.0) at))

pub returns-clause-read : goal.returns-clause-read
returns-clause-read g c = λ v rest outer can of_type valid ends at.
    let start = begin g.D.Decoder.reader _ (all_components envelope.components) v rest outer can of_type valid ends at in
    let kind = step start c.in_ok-kind.ensures.after_reading.same_depth (λ can of_type valid apart at. c.in_ok-kind.ensures.read v.kind (Some (codes "INTEGER")) _ outer can.1 of_type valid (inl can.0) at) in
    let body = step kind.next c.in_ok-body.ensures.after_reading.same_depth (λ can of_type valid apart at. c.in_ok-body.ensures.read v.body None _ outer can.1 of_type valid (inl can.0) at) in
    through body.next (and_from _ _ kind.answer body.answer)

pub returns-clause-only : goal.returns-clause-only
returns-clause-only g c =
    both_were_read g.D.Decoder.reader c.args.decoder.now c.decode.new.decoder c.decode-2.new.decoder _ _ _
    (λ rs ss kind body. (rs, ss, kind, (ss, [], body, refl, sym (append-nil ss)), refl)) c.in_ok-kind.ensures.only c.in_ok-body.ensures.only
