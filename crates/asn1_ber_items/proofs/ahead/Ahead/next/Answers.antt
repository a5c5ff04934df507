use Rattle.std.proofs.Common.{arith}
use Rattle.asn1_ber_items.specs.Ends.{IsAtEnd, Passes}
use Rattle.asn1_ber_items.proofs.Searching.{ends_last, option_weaker, passes_end}
use Rattle.asn1_ber_items.proofs.ahead.Ahead.next.Goals as goal

pub returns-in-Some : goal.returns-in-Some
returns-in-Some c =
    option_weaker c.inside.result _ (IsAtEnd c.args.self) _ (Passes c.args.self) c.inside.ensures
    (λ none. ends_last c.args.self c.in-Some.left.now c.in-Some.ensures (omega (arith, none)))
    (λ new there. passes_end c.args.self new c.in-Some.left.now c.in-Some.ensures (omega (arith, there.0, there.2)) (omega (arith, there.0, there.2)) there.1)
