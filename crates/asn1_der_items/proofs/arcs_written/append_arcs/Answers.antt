use Rattle.std.proofs.Common.{◌<◌, ◌^◌, refl, arith, rules}
use Rattle.std.proofs.Math.Facts.{Fits-lt-pow}
use Rattle.std.proofs.lemmas.List.Elements.{All-from_get_or}
use Rattle.asn1_der_items.proofs.WritingArcs.{arcs_appended}
use Rattle.asn1_der_items.proofs.arcs_written.append_arcs.Goals as goal

pub returns-clause-appended : goal.returns-clause-appended
returns-clause-appended c =
    let fit = All-from_get_or (λ arc. arc < 2 ^ 32) c.args.arcs.now 0 (λ i within. Fits-lt-pow (c.type_inv.arcs i)) in
    arcs_appended c.args.arcs.now _ _ _ _ _ c.in-len2-up.len_at_least fit refl (omega (arith, c.from.ensures, c.from-2.ensures)) (omega (arith, c.if-first-gt2.false)) (λ small. search rules) c.in_ok-append_base128.ensures c.in_ok-append_numbers.ensures
