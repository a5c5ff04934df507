use Rattle.std.proofs.Common.{◌≡◌, ◌∙◌}
use Rattle.asn1_contents.proofs.NumbersOfArcs.{one_numbers}
use Rattle.asn1_contents.proofs.relative_oid.has_octets.Goals as goal

-- arcs have one list of octets
pub returns-clause-every : goal.returns-clause-every
returns-clause-every c = λ are.
    c.are_equal.ensures.every (c.as_slice.ensures.value ∙ one_numbers c.args.arcs.now c.in_ok-own.own.items c.args.octets.now c.in_ok-own.ensures are)
