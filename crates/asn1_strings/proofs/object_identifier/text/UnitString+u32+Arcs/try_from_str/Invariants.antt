use Rattle.std.proofs.Common.{◌≡◌, ◌==◌, drop, length}
use Rattle.std.specs.List.{slice_split}
use Rattle.asn1_strings.specs.Dotted.{arcs_after, arcs_of}
use Rattle.asn1_strings.proofs.object_identifier.text.UnitString+u32+Arcs.try_from_str.Given as goal

abbrev pub invariant-loop-part : goal.invariant-loop-part
invariant-loop-part l =
    (length l.arcs.items ≡ length l.yielded) × (arcs_after l.arcs.items (drop (length l.yielded) (slice_split (λ c. c == 46) l.text)) ≡ arcs_of l.text)
