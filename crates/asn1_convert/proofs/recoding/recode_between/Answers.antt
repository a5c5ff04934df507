use Rattle.std.proofs.Common.{Err}
use Rattle.asn1_convert.proofs.Reading.{may_be_read}
use Rattle.asn1_convert.proofs.recoding.recode_between.Goals as goal

pub returns-in-Err-clause-converted : goal.returns-in-Err-clause-converted
returns-in-Err-clause-converted g c =
    may_be_read g.T.AsnType.meaning g.T.PartialEq.eq g.T.Decode.refusals c.args.depth c.args.from c.args.octets.now (Err c.in-Err.error) c.in-Err.ensures
