use Rattle.std.proofs.Common.{◌≡◌, ◌^◌, ◌<◌, drop}
use Rattle.std.specs.List.{list_all}
use Rattle.std.specs.Char.{is_ascii_digit}
use Rattle.std.specs.Str.Parse.{digits_value, digits_value_after}
use Rattle.asn1_report.proofs.number.read_u64.Given as goal

abbrev pub invariant-loop-byte : goal.invariant-loop-byte
invariant-loop-byte l = record {
  value : digits_value_after 10 l.number (drop l.byte-index l.text) ≡ digits_value 10 l.text;
  digits : list_all is_ascii_digit (drop l.byte-index l.text) ≡ list_all is_ascii_digit l.text;
  small : l.number < 2 ^ 64;
}
