use Rattle.std.proofs.Common.{◌≡◌, ◌++◌, take}
use Rattle.std.specs.List.{flat_map}
use Rattle.std.specs.String.{string_bytes}
use Rattle.asn1_certificate_text.proofs.append_text.push_each.Given as goal

abbrev pub invariant-loop-item : goal.invariant-loop-item
invariant-loop-item g l =
    string_bytes l.text ≡ string_bytes l.initial.text ++ flat_map (λ item. l.before ++ g.T.AppendText.text_of item) (take l.item-index l.items)
