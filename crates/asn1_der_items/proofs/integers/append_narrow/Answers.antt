use Rattle.std.proofs.Common.{◌∙◌, [], ◌∷◌, ap, arith, get_or, of_z, rules}
use Rattle.std.proofs.lemmas.Int.{to_z-of_z}
use Rattle.std.specs.Int.{bytes_high_first, w128}
use Rattle.asn1_der_items.proofs.Narrow.{least, least_small, not_negative}
use Rattle.asn1_der_items.proofs.integers.append_narrow.Goals as goal

pub returns-in-Ok : goal.returns-in-Ok
returns-in-Ok c =
    let octets = ap (λ l. 0 ∷ get_or l 0 0 ∷ get_or l 1 0 ∷ get_or l 2 0 ∷ get_or l 3 0 ∷ []) c.to_be_bytes.ensures in
    let same = not_negative _ c.in-Ok.small c.in-Ok.ensures.0.0 c.in-Ok.ensures.1 ∙ to_z-of_z w128 c.args.number c.ranges.number in
    let is = least_small c.args.number c.in-Ok.small _ c.shortest.result.now (omega arith) same octets c.shortest.ensures.same c.shortest.ensures.shortest in
    search (rules, is)

pub returns : goal.returns
returns c =
    let octets = c.to_be_bytes-octets.ensures ∙ ap (λ z. bytes_high_first 16 (of_z w128 z)) (to_z-of_z w128 c.args.number c.ranges.number) in
    let is = least c.args.number c.to_be_bytes-octets.result c.shortest-2.result.now c.ranges.number octets c.shortest-2.ensures.same c.shortest-2.ensures.shortest in
    search (rules, is)
