use Rattle.std.proofs.Common.{◌≡◌, ◌+◌, filter, length, take}
use Rattle.asn1_certificate_text.specs.PemLines.{is_symbol}
use Rattle.asn1_certificate_text.proofs.pem.position_of_symbol.Given as goal

-- the symbols that were passed, and those that are still to pass
abbrev pub invariant-loop-position : goal.invariant-loop-position
invariant-loop-position l = length (filter is_symbol (take l.position l.body)) + l.left ≡ l.before
