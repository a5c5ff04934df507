use Rattle.std.proofs.Common.{◌≡◌, length, map, nat_eq}
use Rattle.std.specs.List.{find, starts_with}
use Rattle.asn1_tokens.proofs.symbols.find_symbol.Given as goal

abbrev pub invariant-loop-table : goal.invariant-loop-table
invariant-loop-table l =
    find (λ known. starts_with nat_eq l.text known) (map (λ k. k.now) l.table)
    ≡ find (λ known. starts_with nat_eq l.text known) (map (λ k. k.now) l.initial.table)

abbrev pub decreases-loop-table : goal.decreases-loop-table
decreases-loop-table l = length l.table
