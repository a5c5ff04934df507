use Rattle.std.proofs.Common.{◌≡◌, ◌∙◌, ◌+◌, ◌*◌, ◌-◌, ◌/◌, ◌≤◌, length, take, take_all, ap, arith, sym}
use Rattle.std.proofs.lemmas.List.{with_items_is}
use Rattle.asn1_strings.proofs.BitOctets.{truncated, view_long}
use Rattle.asn1_strings.specs.Bits.{bits_but}
use Rattle.asn1_strings.proofs.strings.bit_vec.BitVec.truncate.Goals as goal

pub returns : goal.returns
returns c =
    let octets = c.self.inside.octets.items in
    let before = c.self.inside.unused in
    let unused = c.unused_after-unused.result in
    let count = c.args.count in
    let low : count ≤ length octets * 8 - before = omega (arith, c.if-count-len.false, c.len.ensures, ap length c.self.view_is, view_long octets before) in
    let some = (count + c.from.result) / 8 in
    let whole : count + unused ≡ some * 8 = omega (arith, c.from.ensures, c.unused_after-unused.ensures.whole) in
    let within : some ≤ length octets = omega (arith, low, c.from.ensures, c.unused_after-unused.ensures.few, c.unused_after-unused.ensures.whole) in
    let written = with_items_is c.truncate.new.self c.clear_last.new.octets (omega (arith, c.clear_last.ensures.long, c.as_mut_slice.ensures.len, ap length c.as_mut_slice.ensures.value, c.truncate.new.self.ok)) in
    ap (bits_but unused) written ∙ c.clear_last.ensures.kept ∙ ap (bits_but unused) (c.as_mut_slice.ensures.value ∙ c.truncate.ensures.items) ∙
    truncated octets some unused before count within whole low ∙ ap (take count) c.self.view_is

pub returns-then-count-len : goal.returns-then-count-len
returns-then-count-len c = c.self.view_is ∙ sym (take_all c.args.count c.args.self (omega (arith, c.if-count-len.true, c.len.ensures)))
