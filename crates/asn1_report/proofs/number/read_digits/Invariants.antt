use Rattle.std.proofs.Common.{◌≡◌, ◌^◌, ◌<◌, drop, length}
use Rattle.std.specs.List.{prefix_len, take_while}
use Rattle.std.specs.Char.{is_ascii_digit}
use Rattle.std.specs.Str.Parse.{digits_value, digits_value_after}
use Rattle.asn1_report.proofs.number.read_digits.Given as goal

abbrev pub invariant-loop-left : goal.invariant-loop-left
invariant-loop-left l = record {
  value : digits_value_after 10 l.number (take_while is_ascii_digit l.left) ≡ digits_value 10 (take_while is_ascii_digit l.text);
  left : drop (prefix_len is_ascii_digit l.left) l.left ≡ drop (prefix_len is_ascii_digit l.text) l.text;
  small : l.number < 2 ^ 32;
}

abbrev pub decreases-loop-left : goal.decreases-loop-left
decreases-loop-left l = length l.left
