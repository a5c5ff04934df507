use Rattle.std.proofs.Common.{false, true}
use Rattle.std.specs.Prelude.{◌≡◌}
use Rattle.asn1_items.proofs.PackedBits.{not_refused}
use Rattle.asn1_items.proofs.bits.read_packed_bits.Goals as goal

pub returns-in-None-clause-read : goal.returns-in-None-clause-read
returns-in-None-clause-read c = λ list are.
    let one = not_refused list c.args.bytes.now c.in_ok-from_slice.field-0.items are c.in_ok-from_slice.ensures.items c.if-octets.false in
    let wrong : false ≡ true = c.in-None.ensures.made.1 one.are in
    cc
