use Rattle.std.proofs.Common.{◌≡◌, ◌↔◌, [], subst, sym}
use Rattle.asn1_names.specs.Accepted.{IsAccepted}
use Rattle.asn1_names.proofs.NothingWrong.{nothing_wrong}
use Rattle.asn1_names.proofs.problems.check_names.Goals as goal

pub returns-clause-accepted : goal.returns-clause-accepted
returns-clause-accepted c =
    subst (λ items. (items ≡ []) ↔ IsAccepted c.args.names.now) (sym c.in_ok-found.ensures) (nothing_wrong c.args.names.now)
