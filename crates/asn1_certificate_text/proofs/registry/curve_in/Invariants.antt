use Rattle.std.proofs.Common.{◌≢◌, All, take}
use Rattle.asn1_certificate_text.proofs.registry.curve_in.Given as goal

-- the rows that were passed have other arcs
abbrev pub invariant-loop-known : goal.invariant-loop-known
invariant-loop-known l = All (λ row. row.0.now ≢ l.arcs) (take l.known-index l.table)
