use Rattle.std.proofs.Common.{◌≡◌, ◌∙◌, ap, rules}
use Rattle.asn1_bounds.specs.Admitted.{size_intersection}
use Rattle.asn1_bounds.proofs.KindLaws.{size_intersection-comm, size_intersection-assoc}
use Rattle.asn1_bounds.proofs.size.Size.intersect.Goals as goal

pub returns-clause-commutative : goal.returns-clause-commutative
returns-clause-commutative c =
    let shape : c.new.result.bound ≡ size_intersection c.args.self.now.bound c.args.other.now.bound = search rules in
    shape ∙ size_intersection-comm c.args.self.now.bound c.args.other.now.bound

pub returns-clause-associative : goal.returns-clause-associative
returns-clause-associative c =
    let shape : c.new.result.bound ≡ size_intersection c.args.self.now.bound c.args.other.now.bound = search rules in
    λ third. ap (λ b. size_intersection b third) shape ∙ size_intersection-assoc c.args.self.now.bound c.args.other.now.bound third
