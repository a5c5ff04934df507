use Rattle.asn1_model.specs.ConstraintSets.{constraint_set}
use Rattle.asn1_limits.proofs.ReadingWithin.{leaves_within, reads_within, refuses_within, was_read_within}
use Rattle.asn1_limits.proofs.decode.WithinDecode.decode_with_tag_and_constraints.Goals as goal

pub returns-clause-read : goal.returns-clause-read
returns-clause-read g c =
    let call = c.decode_with_tag_and_constraints in
    reads_within g.D.Decoder.reader g.T.AsnType.meaning g.L.Restriction.IsWithin g.L.Restriction.constrained g.T.PartialEq.eq
    g.met.T.PartialEq.laws g.met.L.Restriction.respects c.args.tag (constraint_set c.args.constraints.now) c.args.decoder.now
    call.new.decoder call.result c.pass_if_within.result c.pass_if_within.ensures call.ensures.read

pub returns-clause-after_reading : goal.returns-clause-after_reading
returns-clause-after_reading g c =
    let call = c.decode_with_tag_and_constraints in
    leaves_within g.D.Decoder.reader g.T.AsnType.meaning g.L.Restriction.IsWithin g.L.Restriction.constrained g.T.PartialEq.eq
    g.met.T.PartialEq.laws g.met.L.Restriction.respects c.args.tag (constraint_set c.args.constraints.now) c.args.decoder.now
    call.new.decoder call.result c.pass_if_within.result c.pass_if_within.ensures call.ensures.read call.ensures.after_reading

pub returns-clause-refuses : goal.returns-clause-refuses
returns-clause-refuses g c =
    let call = c.decode_with_tag_and_constraints in
    refuses_within g.D.Decoder.reader g.T.AsnType.meaning g.L.Restriction.IsWithin g.L.Restriction.constrained g.T.PartialEq.eq
    g.met.T.PartialEq.laws g.met.L.Restriction.respects c.args.tag (constraint_set c.args.constraints.now) c.args.decoder.now
    call.new.decoder g.T.Decode.refusals call.result c.pass_if_within.result c.pass_if_within.ensures call.ensures.read
    call.ensures.after_reading call.ensures.refuses

pub returns-clause-only : goal.returns-clause-only
returns-clause-only g c =
    let call = c.decode_with_tag_and_constraints in
    was_read_within g.D.Decoder.reader g.T.AsnType.meaning g.L.Restriction.IsWithin g.L.Restriction.constrained g.T.PartialEq.eq
    g.met.T.PartialEq.laws g.met.L.Restriction.respects c.args.tag (constraint_set c.args.constraints.now) c.args.decoder.now
    call.new.decoder call.result c.pass_if_within.result c.pass_if_within.ensures call.ensures.only
