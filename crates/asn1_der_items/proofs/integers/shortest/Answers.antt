use Rattle.std.proofs.Common.{sym, ◌∙◌}
use Rattle.std.proofs.lemmas.Bool.{false≢true}
use Rattle.asn1_der_items.proofs.Narrow.{spare_dropped}
use Rattle.asn1_der_items.proofs.integers.shortest.Goals as goal

pub loop-rest-preserved : goal.loop-rest-preserved
loop-rest-preserved c =
    let s = spare_dropped c.loop-rest.rest.now c.args.octets.now c.in-len1-up.len_at_least c.loop-rest.invariant.are_octets (λ is. false≢true (sym c.if-is_shortest.false ∙ c.is_shortest.ensures.1 is)) c.loop-rest.invariant.same in
    record { same = s.same; some = λ given. s.some; are_octets = s.are_octets }
