use Rattle.std.proofs.Common.{arith}
use Rattle.asn1_ber_items.specs.Segments.{octets_of_each}
use Rattle.asn1_ber_items.proofs.Joined.{joined_last_length}
use Rattle.asn1_ber_items.proofs.segments.Segments.len.Goals as goal

pub returns-in-Some : goal.returns-in-Some
returns-in-Some c = λ counted.
    let last = c.args.self.now.last in
    omega (arith, counted, c.in-Some.ensures.1, c.len.ensures, last.ok.0, joined_last_length (octets_of_each c.args.self.now.full.items) last.items)
