use Rattle.std.proofs.lemmas.Result.{err_from_is_err_and}
use Rattle.std.specs.Prelude.{None, unwrap_or}
use Rattle.asn1_laws.specs.GivenTypes.{constraints_or_own, given}
use Rattle.asn1_laws.specs.Sides.{side_of}
use Rattle.asn1_laws.proofs.ReadingDefaults.{default_fails, default_reads}
use Rattle.asn1_laws.proofs.ReadingWhole.{default_was_read}
use Rattle.asn1_dec.proofs.defaults.read_default.Goals as goal

pub returns-in_err-value-clause-read : goal.returns-in_err-value-clause-read
returns-in_err-value-clause-read g c =
    let m = g.T.AsnType.meaning in
    let p = err_from_is_err_and c.from_residual.result c.from_residual.ensures.1 in
    rw (p.1, p.2) (default_fails g.D.Decoder.reader (side_of c.args.side) (given (unwrap_or c.args.tag m.tag) (constraints_or_own c.args.constraints m) m) g.T.PartialEq.eq _ c.args.decoder.now c.args.decoder.now _ c.in_err-value.ensures.read)

pub returns-clause-read : goal.returns-clause-read
returns-clause-read g c =
    let m = g.T.AsnType.meaning in
    default_reads g.D.Decoder.reader (side_of c.args.side) (given (unwrap_or c.args.tag m.tag) (constraints_or_own c.args.constraints m) m) g.T.PartialEq.eq _ g.met.T.Eq.laws _ _ _ _ _ c.in_ok-value.ensures.read c.or_make_default.ensures.there c.or_make_default.ensures.absent

pub returns-clause-only : goal.returns-clause-only
returns-clause-only g c =
    let m = g.T.AsnType.meaning in
    default_was_read g.D.Decoder.reader (given (unwrap_or c.args.tag m.tag) (constraints_or_own c.args.constraints m) m None).IsReadAs (side_of c.args.side) (unwrap_or c.args.tag m.tag) c.args.decoder.now _ _
    _ _ _ c.or_make_default.result c.in_ok-value.ensures.only c.or_make_default.ensures.there c.or_make_default.ensures.absent
