use Rattle.std.proofs.Common.{take}
use Rattle.asn1_items.specs.Numbers.{Appended}
use Rattle.asn1_der_items.specs.Arcs.{AreNumbers}
use Rattle.asn1_der_items.proofs.arcs_written.append_numbers.Given as goal

abbrev pub invariant-loop-number : goal.invariant-loop-number
invariant-loop-number l = Appended (AreNumbers (take l.number-index l.numbers)) l.initial.bytes.items l.bytes.items
