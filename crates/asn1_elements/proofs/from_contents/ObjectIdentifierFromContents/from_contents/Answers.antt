use Rattle.std.proofs.Common.{◌∙◌}
use Rattle.std.proofs.lemmas.Result.{err_from_is_err_and}
use Rattle.asn1_elements.proofs.from_contents.ObjectIdentifierFromContents.from_contents.Goals as goal

pub returns-in_err-arcs-clause-read : goal.returns-in_err-arcs-clause-read
returns-in_err-arcs-clause-read c = λ list of_type are.
    let p = err_from_is_err_and c.from_residual.result c.from_residual.ensures.1 in
    rw (p.1, p.2) (c.in_err-arcs.ensures.read list are)

pub returns-clause-read : goal.returns-clause-read
returns-clause-read c = λ list of_type are. c.new.ensures ∙ c.in_ok-arcs.ensures.read list are

pub returns-clause-only : goal.returns-clause-only
returns-clause-only c = record { spelling = c.in_ok-arcs.arcs.items; is_of = c.new.ensures; has = c.in_ok-arcs.ensures.only }
