use Rattle.std.proofs.lemmas.List.{take_all}
use Rattle.std.proofs.lemmas.List.Elements.{All-nil}
use Rattle.asn1_model.specs.Meaning.{own_records}
use Rattle.asn1_laws.proofs.WritingElements.{appends_element, fails_at_element}
use Rattle.asn1_laws.proofs.WritingSteps.{appends_none, exits, inside_fails, open_fails, writes_scope}
use Rattle.asn1_enc.proofs.encoder.Encoder.encode_sequence_of.Goals as goal

pub returns-in_err-open_sequence_of-clause-writes : goal.returns-in_err-open_sequence_of-clause-writes
returns-in_err-open_sequence_of-clause-writes g c = exits g.Self.Encoder.writer _ _ _ _ _ c.from_residual.ensures.1 (open_fails g.Self.Encoder.writer _ c.in_err-open_sequence_of.ensures)

pub loop-element-init : goal.loop-element-init
loop-element-init g c = appends_none g.Self.Encoder.writer _ (All-nil g.T.AsnType.meaning.IsOfType)

pub returns-in_err-encode-clause-writes : goal.returns-in_err-encode-clause-writes
returns-in_err-encode-clause-writes g c =
    let W = g.Self.Encoder.writer in
    let law = g.met.Self.Encoder.lawful in
    exits W _ _ _ _ _ c.from_residual-in_err-encode.ensures.1
    (inside_fails W law c.in_ok-open_sequence_of.ensures (fails_at_element W (own_records g.T.AsnType.meaning) _ _ _ c.loop-element-test.true c.element-item.is law c.loop-element.invariant c.in_err-encode.ensures))

pub loop-element-preserved : goal.loop-element-preserved
loop-element-preserved g c =
    appends_element g.Self.Encoder.writer (own_records g.T.AsnType.meaning) g.T.AsnType.meaning.IsOfType _ _ _ c.loop-element-test.true c.element-item.is c.loop-element.invariant c.in_ok-encode.ensures

pub returns-clause-writes : goal.returns-clause-writes
returns-clause-writes g c = writes_scope g.Self.Encoder.writer _ _ c.in_ok-open_sequence_of.ensures (rw (take_all _ _ c.loop-element-test.false) at c.loop-element.invariant) c.close.ensures
