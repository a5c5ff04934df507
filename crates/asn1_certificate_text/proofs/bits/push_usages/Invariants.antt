use Rattle.std.proofs.Common.{◌≡◌, ◌++◌}
use Rattle.std.specs.String.{string_bytes}
use Rattle.asn1_certificate_text.specs.Bits.{first_usages, is_some_set}
use Rattle.asn1_certificate_text.proofs.bits.push_usages.Given as goal

abbrev pub invariant-loop-i : goal.invariant-loop-i
invariant-loop-i l = record {
  texts : string_bytes l.text ≡ string_bytes l.initial.text ++ first_usages l.bits l.i;
  later : l.is_later ≡ is_some_set l.bits l.i;
}
