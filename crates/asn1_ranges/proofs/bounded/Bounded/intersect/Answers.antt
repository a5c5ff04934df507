use Rattle.std.proofs.Common.{◌∙◌}
use Rattle.asn1_ranges.proofs.Intersecting.{ordered-inhabited, intersection-IsCommon, intersection-None, intersection-common}
use Rattle.asn1_ranges.proofs.bounded.Bounded.intersect.Goals as goal

pub returns-in-None-default-clause-inhabited : goal.returns-in-None-default-clause-inhabited
returns-in-None-default-clause-inhabited g c = λ p q. ordered-inhabited _ _ q

pub returns-in_default-None : goal.returns-in_default-None
returns-in_default-None g c =
    let shape = intersection-None g.T.WholeNumber.number c.args.self.now c.args.other c.in_default-None.is-1 in
    let is = intersection-IsCommon g.T.WholeNumber.number g.met.T.WholeNumber.distinct c.args.self.now c.args.other _ shape in
    record { shape = shape; members = is.members; disjoint = is.disjoint; inhabited = is.inhabited; single = is.single }

pub returns-in_default : goal.returns-in_default
returns-in_default g c =
    let shape = c.common.ensures ∙ intersection-common g.T.WholeNumber.number c.args.self.now c.args.other c.in_default.not-None-0 c.in_default.not-None-1 in
    let is = intersection-IsCommon g.T.WholeNumber.number g.met.T.WholeNumber.distinct c.args.self.now c.args.other _ shape in
    record { shape = shape; members = is.members; disjoint = is.disjoint; inhabited = is.inhabited; single = is.single }
