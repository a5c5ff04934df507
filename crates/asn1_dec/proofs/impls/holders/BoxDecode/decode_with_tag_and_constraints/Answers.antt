use Rattle.std.proofs.Common.{rules}
use Rattle.asn1_model.specs.ConstraintSets.{constraint_set}
use Rattle.asn1_laws.specs.Reading.{AfterReading, ReadsValue, Refuses}
use Rattle.asn1_laws.proofs.ReadingBoxes.{leaves_boxed, refuses_boxed, was_read_boxed}
use Rattle.asn1_laws.specs.ReadingExactly.{HasReadValue}
use Rattle.std.specs.Prelude.{IfOk}
use Rattle.asn1_dec.proofs.impls.holders.BoxDecode.decode_with_tag_and_constraints.Goals as goal

pub returns-clause-after_reading : goal.returns-clause-after_reading
returns-clause-after_reading g c =
    let m = g.T.AsnType.meaning in
    let constraints = constraint_set c.args.constraints.now in
    let read : ReadsValue g.D.Decoder.reader m g.T.PartialEq.eq c.args.tag constraints c.args.decoder.now c.read_boxed.new.decoder c.read_boxed.ensures.0 = search rules in
    let leaves : AfterReading g.D.Decoder.reader m c.args.tag constraints c.args.decoder.now c.read_boxed.new.decoder c.read_boxed.ensures.0 = search rules in
    leaves_boxed g.D.Decoder.reader m (λ b. b.value) c.args.tag constraints c.args.decoder.now c.read_boxed.new.decoder g.T.PartialEq.eq c.read_boxed.ensures.0 c.read_boxed.result read leaves c.read_boxed.ensures.2

pub returns-clause-refuses : goal.returns-clause-refuses
returns-clause-refuses g c =
    let refuses : Refuses g.D.Decoder.reader g.T.Decode.refusals c.args.tag (constraint_set c.args.constraints.now) c.args.decoder.now c.read_boxed.new.decoder c.read_boxed.ensures.0 = search rules in
    refuses_boxed g.D.Decoder.reader g.T.AsnType.meaning (λ b. b.value) c.args.tag (constraint_set c.args.constraints.now) c.args.decoder.now c.read_boxed.new.decoder g.T.Decode.refusals c.read_boxed.ensures.0 c.read_boxed.result refuses c.read_boxed.ensures.2

pub returns-clause-only : goal.returns-clause-only
returns-clause-only g c =
    let m = g.T.AsnType.meaning in
    let constraints = constraint_set c.args.constraints.now in
    let only : IfOk c.read_boxed.ensures.0 (HasReadValue g.D.Decoder.reader c.args.decoder.now c.read_boxed.new.decoder m c.args.tag constraints) = search rules in
    was_read_boxed g.D.Decoder.reader m (λ b. b.value) c.args.tag constraints c.args.decoder.now c.read_boxed.new.decoder c.read_boxed.ensures.0 c.read_boxed.result only c.read_boxed.ensures.2
