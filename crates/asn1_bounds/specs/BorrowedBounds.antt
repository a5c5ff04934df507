-- The effect of a borrowed bound on the size that lends it.
use Rattle.std.specs.Prelude.{ℕ}
use Rattle.std.specs.Borrow.{Lends, MutBor, Fml, usize}
use Rattle.asn1_ranges.specs.declared.bounded.Bounded.{Bounded}
use Rattle.asn1_bounds.specs.declared.size.Size.{Size}
use Rattle.asn1_ranges.specs.contracts.bounded.Bounded as bounded
use Rattle.asn1_bounds.specs.contracts.size.Size as size_contracts

-- the size ends as the bound that is last written through the result
abbrev pub LendsBound : MutBor Size → MutBor (Bounded ℕ) → Fml
LendsBound s r = Lends size_contracts.the_row (bounded.the_row usize) s r (λ bound. record { bound = bound })
