use Rattle.std.proofs.Common.{◌++◌, arith}
use Rattle.std.proofs.lemmas.Result.{err_from_is_err_and}
use Rattle.asn1_der_items.proofs.CutIdentifiers.{has_number, lack_high, whole_number}
use Rattle.asn1_der_items.proofs.identifiers.read_high_tag.Goals as goal

pub returns-in_err-front-clause-missing : goal.returns-in_err-front-clause-missing
returns-in_err-front-clause-missing c =
    let octets = c.args.octets.now in
    let p = err_from_is_err_and c.from_residual.result c.from_residual.ensures.1 in
    rw (p.1, p.2) (
      λ missing. lack_high c.args.class c.args.constructed octets (c.in_err-front.ensures.missing missing),
      λ early.
          let h = has_number c.args.class c.args.constructed (octets ++ early.more) early.whole early.completed in
          c.in_err-front.ensures.completed early.more h.front h.at (omega (arith, h.small)),
    )

pub returns-in_default-clause-missing : goal.returns-in_default-clause-missing
returns-in_default-clause-missing c = (
  λ missing. absurd missing,
  λ early. whole_number c.args.class c.args.constructed c.args.octets.now _ c.in_ok-front.ensures.only early,
)
