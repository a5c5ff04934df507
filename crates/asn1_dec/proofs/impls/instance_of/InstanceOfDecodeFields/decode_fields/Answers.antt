use Rattle.std.proofs.Common.{◌++◌, [], append-nil, inl, refl, sym, subst, arith}
use Rattle.std.specs.Prelude.{Some, codes}
use Rattle.std.proofs.lemmas.Bool.{and_from}
use Rattle.std.proofs.lemmas.Result.{err_from_is_err_and}
use Rattle.asn1_laws.proofs.ReadingSteps.{fails_below}
use Rattle.asn1_model.specs.Composites.{explicit_tag_records}
use Rattle.asn1_model.specs.Kinds.{object_identifier}
use Rattle.asn1_model.specs.Meaning.{own_records}
use Rattle.asn1_model.specs.Tags.{context}
use Rattle.asn1_laws.proofs.ReadingWhole.{both_were_read}
use Rattle.asn1_laws.proofs.TwoComponents.{highest_of_two, one_then_other}
use Rattle.asn1_dec.proofs.impls.instance_of.InstanceOfDecodeFields.decode_fields.Goals as goal

pub returns-in_err-type_id-clause-read : goal.returns-in_err-type_id-clause-read
returns-in_err-type_id-clause-read g c = λ v rest outer can of_type valid ends at.
    let p = err_from_is_err_and c.from_residual.result c.from_residual.ensures.1 in
    let rs = own_records object_identifier v.type_id in
    let ss = explicit_tag_records (context 0) (Some (codes "SEQUENCE")) (own_records g.T.AsnType.meaning v.value) in
    let before = subst (λ l. g.D.Decoder.reader.remains c.args.decoder.now (l, outer)) (one_then_other rs ss rest) at in
    let r = c.in_err-type_id.ensures.read v.type_id (Some (codes "OBJECT_IDENTIFIER")) (ss ++ rest) outer can.0.0.1 of_type.0 valid.0 (inl can.0.0.0) before in
    rw (p.1, p.2) (fails_below _ _ _ refl (omega (arith, highest_of_two rs ss)) r)

pub returns-in_err-value-clause-read : goal.returns-in_err-value-clause-read
returns-in_err-value-clause-read g c = λ v rest outer can of_type valid ends at.
    let p = err_from_is_err_and c.from_residual-in_err-value.result c.from_residual-in_err-value.ensures.1 in
    let rs = own_records object_identifier v.type_id in
    let ss = explicit_tag_records (context 0) (Some (codes "SEQUENCE")) (own_records g.T.AsnType.meaning v.value) in
    let before = subst (λ l. g.D.Decoder.reader.remains c.args.decoder.now (l, outer)) (one_then_other rs ss rest) at in
    let r = c.in_ok-type_id.ensures.read v.type_id (Some (codes "OBJECT_IDENTIFIER")) (ss ++ rest) outer can.0.0.1 of_type.0 valid.0 (inl can.0.0.0) before in
    let s = c.in_err-value.ensures.read v.value (Some (codes "SEQUENCE")) rest outer can.0.1.0.1 of_type.1.0 valid.1.0 r.at in
    rw (p.1, p.2) (fails_below _ _ _ (sym c.in_ok-type_id.ensures.after_reading.same_depth) (omega (arith, highest_of_two rs ss)) s)

pub returns-clause-read : goal.returns-clause-read
returns-clause-read g c = λ v rest outer can of_type valid ends at.
    let rs = own_records object_identifier v.type_id in
    let ss = explicit_tag_records (context 0) (Some (codes "SEQUENCE")) (own_records g.T.AsnType.meaning v.value) in
    let before = subst (λ l. g.D.Decoder.reader.remains c.args.decoder.now (l, outer)) (one_then_other rs ss rest) at in
    let r = c.in_ok-type_id.ensures.read v.type_id (Some (codes "OBJECT_IDENTIFIER")) (ss ++ rest) outer can.0.0.1 of_type.0 valid.0 (inl can.0.0.0) before in
    let s = c.in_ok-value.ensures.read v.value (Some (codes "SEQUENCE")) rest outer can.0.1.0.1 of_type.1.0 valid.1.0 r.at in
    record {
      answer = and_from _ _ r.answer s.answer;
      at = s.at;
      within_depth_left = omega (arith, r.within_depth_left, s.within_depth_left, highest_of_two rs ss, c.in_ok-type_id.ensures.after_reading.same_depth);
    }

pub returns-clause-only : goal.returns-clause-only
returns-clause-only g c =
    both_were_read g.D.Decoder.reader c.args.decoder.now c.decode.new.decoder c.decode_explicit_prefix.new.self _ _ _
    (λ rs ss id value. (rs, ss, id, (ss, [], value, refl, sym (append-nil ss)), refl)) c.in_ok-type_id.ensures.only c.in_ok-value.ensures.only
