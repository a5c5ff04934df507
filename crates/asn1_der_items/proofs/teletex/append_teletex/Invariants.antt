use Rattle.std.proofs.Common.{◌≡◌, ◌<◌, ◌++◌, take}
use Rattle.std.specs.Prelude.{All}
use Rattle.asn1_der_items.proofs.teletex.append_teletex.Given as goal

abbrev pub invariant-loop-unit : goal.invariant-loop-unit
invariant-loop-unit l = record {
  appended : l.bytes.items ≡ l.initial.bytes.items ++ take l.unit-index l.units;
  narrow : All (λ unit. unit < 256) (take l.unit-index l.units);
}
