use Rattle.std.proofs.Common.{ap, map, ◌∙◌}
use Rattle.std.proofs.lemmas.List.Elements.{All-nil}
use Rattle.std.specs.Slice.Iter.{iter_rest}
use Rattle.asn1_model.specs.Meaning.{own_records}
use Rattle.asn1_laws.proofs.WritingElements.{all_given, appends_given, fails_at_given, given_next}
use Rattle.asn1_laws.proofs.WritingSteps.{appends_none, exits, inside_fails, open_fails, writes_scope}
use Rattle.asn1_enc.proofs.encoder.Encoder.encode_set_of.Goals as goal

pub returns-in_err-open_set_of-clause-writes : goal.returns-in_err-open_set_of-clause-writes
returns-in_err-open_set_of-clause-writes g c = exits g.Self.Encoder.writer _ _ _ _ _ c.from_residual.ensures.1 (open_fails g.Self.Encoder.writer _ c.in_err-open_set_of.ensures)

pub loop-element-init : goal.loop-element-init
loop-element-init g c = (
  ap iter_rest c.into_iter-element-iterator.ensures.into_iter_gives ∙ c.iter-element-items.ensures.rest,
  appends_none g.Self.Encoder.writer _ (All-nil g.T.AsnType.meaning.IsOfType),
)

pub returns-in_err-encode-clause-writes : goal.returns-in_err-encode-clause-writes
returns-in_err-encode-clause-writes g c =
    let W = g.Self.Encoder.writer in
    let law = g.met.Self.Encoder.lawful in
    exits W _ _ _ _ _ c.from_residual-in_err-encode.ensures.1
    (inside_fails W law c.in_ok-open_set_of.ensures
    (fails_at_given W (own_records g.T.AsnType.meaning) (map (λ r. r.now) c.loop-element.yielded) _ _ _ c.in-Some.element c.loop-element.invariant.0 c.in-Some.ensures.steps law c.loop-element.invariant.1 c.in_err-encode.ensures))

pub loop-element-preserved : goal.loop-element-preserved
loop-element-preserved g c = (
  given_next c.loop-element.yielded c.in-Some.element _ _ _ c.loop-element.invariant.0 c.in-Some.ensures.steps,
  appends_given g.Self.Encoder.writer (own_records g.T.AsnType.meaning) g.T.AsnType.meaning.IsOfType c.loop-element.yielded c.in-Some.element c.loop-element.invariant.1 c.in_ok-encode.ensures,
)

pub returns-clause-writes : goal.returns-clause-writes
returns-clause-writes g c =
    writes_scope g.Self.Encoder.writer _ _ c.in_ok-open_set_of.ensures
    (rw (all_given (map (λ r. r.now) c.loop-element.yielded) (iter_rest c.loop-element.element-iterator) c.args.elements.now c.loop-element.invariant.0 (c.in-None.ensures.steps.0)) at c.loop-element.invariant.1) c.close.ensures
