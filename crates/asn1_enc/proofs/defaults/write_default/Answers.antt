use Rattle.asn1_tags.specs.Names.{name_of}
use Rattle.asn1_laws.specs.GivenTypes.{constraints_or_own, given}
use Rattle.asn1_laws.proofs.WritingDefaults.{default_absent, default_refused, default_there}
use Rattle.asn1_enc.proofs.defaults.write_default.Goals as goal

pub returns-in_err-equals_default : goal.returns-in_err-equals_default
returns-in_err-equals_default g c = default_refused g.E.Encoder.writer (given c.args.tag (constraints_or_own c.args.constraints g.T.AsnType.meaning) g.T.AsnType.meaning (name_of c.args.name)) _ g.T.PartialEq.eq c.args.value.now _ _ _ c.from_residual.ensures.1 c.in_err-equals_default.ensures.refused

pub returns-then-branch : goal.returns-then-branch
returns-then-branch g c = default_absent g.E.Encoder.writer (given c.args.tag (constraints_or_own c.args.constraints g.T.AsnType.meaning) g.T.AsnType.meaning (name_of c.args.name)) _ g.T.PartialEq.eq c.args.value.now _ _ _ _ c.in_ok-equals_default.ensures.compared c.if-branch.true (rw c.in_ok-equals_default.ensures.same at c.encode_none_with_tag.ensures)

pub returns-else-branch : goal.returns-else-branch
returns-else-branch g c = default_there g.E.Encoder.writer (given c.args.tag (constraints_or_own c.args.constraints g.T.AsnType.meaning) g.T.AsnType.meaning (name_of c.args.name)) _ g.T.PartialEq.eq c.args.value.now _ _ _ _ c.in_ok-equals_default.ensures.compared c.if-branch.false (rw c.in_ok-equals_default.ensures.same at c.write_present.ensures)
