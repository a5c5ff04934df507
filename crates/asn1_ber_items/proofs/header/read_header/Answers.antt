use Rattle.std.proofs.lemmas.Result.{err_from_is_err_and}
use Rattle.asn1_ber_items.proofs.CutHeaders.{early_identifier, early_size, identifier_early, size_early}
use Rattle.asn1_ber_items.proofs.header.read_header.Goals as goal

pub returns-in_err-identifier-clause-missing : goal.returns-in_err-identifier-clause-missing
returns-in_err-identifier-clause-missing c =
    let bytes = c.args.bytes.now in
    let p = err_from_is_err_and c.from_residual.result c.from_residual.ensures.1 in
    rw (p.1, p.2) (
      λ missing. identifier_early bytes (c.in_err-identifier.ensures.missing.0 missing),
      λ early. c.in_err-identifier.ensures.missing.1 (early_identifier bytes early (λ i at. (let wrong = c.in_err-identifier.ensures.found i at in cc))),
    )

pub returns-in_err-length-clause-missing : goal.returns-in_err-length-clause-missing
returns-in_err-length-clause-missing c =
    let bytes = c.args.bytes.now in
    let i = c.in_ok-identifier.identifier in
    let p = err_from_is_err_and c.from_residual-in_err-length.result c.from_residual-in_err-length.ensures.1 in
    rw (p.1, p.2) (
      λ missing. size_early bytes (record { tag = i.tag; constructed = i.constructed; rest = i.rest.now }) c.in_ok-identifier.ensures.only (c.in_err-length.ensures.missing.0 missing),
      λ early. c.in_err-length.ensures.missing.1 (early_size bytes (record { tag = i.tag; constructed = i.constructed; rest = i.rest.now }) c.in_ok-identifier.ensures.only early),
    )
