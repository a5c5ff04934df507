use Rattle.std.proofs.Common.{◌≡◌, ◌∙◌, ap, rules}
use Rattle.asn1_bounds.specs.Admitted.{value_intersection}
use Rattle.asn1_bounds.proofs.KindLaws.{value_intersection-comm, value_intersection-assoc}
use Rattle.asn1_bounds.proofs.value.Value.intersect.Goals as goal

pub returns-clause-commutative : goal.returns-clause-commutative
returns-clause-commutative c =
    let shape : c.new.result.bound ≡ value_intersection c.args.self.now.bound c.args.other.now.bound = search rules in
    shape ∙ value_intersection-comm c.args.self.now.bound c.args.other.now.bound

pub returns-clause-associative : goal.returns-clause-associative
returns-clause-associative c =
    let shape : c.new.result.bound ≡ value_intersection c.args.self.now.bound c.args.other.now.bound = search rules in
    λ third. ap (λ b. value_intersection b third) shape ∙ value_intersection-assoc c.args.self.now.bound c.args.other.now.bound third
