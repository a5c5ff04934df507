use Rattle.asn1_tags.specs.Names.{name_of}
use Rattle.asn1_laws.specs.GivenTypes.{after_tag}
use Rattle.asn1_laws.proofs.WritingDefaults.{default_absent, default_refused, default_there}
use Rattle.asn1_enc.proofs.encoder.Encoder.encode_default_with_explicit_prefix.Goals as goal

pub returns-in_err-equals_default : goal.returns-in_err-equals_default
returns-in_err-equals_default g c = default_refused g.Self.Encoder.writer (after_tag c.args.tag g.T.AsnType.meaning (name_of c.args.name)) _ g.T.PartialEq.eq c.args.value.now _ _ _ c.from_residual.ensures.1 c.in_err-equals_default.ensures.refused

pub returns-then-branch : goal.returns-then-branch
returns-then-branch g c = default_absent g.Self.Encoder.writer (after_tag c.args.tag g.T.AsnType.meaning (name_of c.args.name)) _ g.T.PartialEq.eq c.args.value.now _ _ _ _ c.in_ok-equals_default.ensures.compared c.if-branch.true (rw c.in_ok-equals_default.ensures.same at c.encode_none_with_tag.ensures)

pub returns-else-branch : goal.returns-else-branch
returns-else-branch g c = default_there g.Self.Encoder.writer (after_tag c.args.tag g.T.AsnType.meaning (name_of c.args.name)) _ g.T.PartialEq.eq c.args.value.now _ _ _ _ c.in_ok-equals_default.ensures.compared c.if-branch.false (rw c.in_ok-equals_default.ensures.same at c.encode_some_with_explicit_prefix.ensures)
