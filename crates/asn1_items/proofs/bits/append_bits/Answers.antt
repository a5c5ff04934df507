use Rattle.std.proofs.Common.{◌≡◌, ◌/◌, ◌*◌, ◌-◌, ◌<◌, ◌≤◌, ◌++◌, false, length, length-drop, drop, take, refl, ap, sym, subst, ◌∙◌, arith}
use Rattle.std.specs.Prelude.{replicate}
use Rattle.asn1_items.proofs.Octets.{no_rest, rest_is, with_rest}
use Rattle.asn1_items.proofs.OctetsWritten.{appended}
use Rattle.asn1_items.specs.Bits.{bits_of_octet}
use Rattle.asn1_items.proofs.bits.append_bits.Goals as goal

pub returns-in-None : goal.returns-in-None
returns-in-None c =
    let bits = c.args.bits.now in
    let n = length bits / 8 * 8 in
    no_rest bits (drop n bits) c.args.bytes.now.items _ (sym (rest_is n bits (omega arith)) ∙ c.in-None.ensures.no_bits refl)
    (appended bits c.args.bytes.now.items c.reserve.new.self.items c.push.new.self.items _ c.as_mut_slice.result.now c.write_octets.new.bytes _ c.len-start.result c.resize.new.self.len
    c.in_ok-reserve.ensures.items c.in_ok-push.ensures.items (c.len-start.ensures ∙ c.push.new.self.ok.0) (c.as_mut_slice.ensures.value ∙ c.in_ok-resize.ensures.items) (omega (arith, c.write_octets.auto.bytes, c.resize.new.self.ok.0)) c.write_octets.ensures)

pub returns-in_ok-push-in-Some : goal.returns-in_ok-push-in-Some
returns-in_ok-push-in-Some c =
    let bits = c.args.bits.now in
    let n = length bits / 8 * 8 in
    let rest : take (length bits - n) (drop n bits) ≡ drop n bits = rest_is n bits (omega arith) in
    let short : length (take (length bits - n) (drop n bits)) < 8 = omega (arith, length-drop n bits, ap length rest) in
    with_rest bits (drop n bits) c.args.bytes.now.items _ _ c.in-Some.octet (omega (arith, length-drop n bits)) (subst (λ l. 1 ≤ length l) rest c.in-Some.ensures.some_bits) c.in_ok-push-in-Some.ensures.items
    (subst (λ l. bits_of_octet c.in-Some.octet ≡ l ++ replicate (8 - length l) false) rest (c.in-Some.ensures.octet short))
    (appended bits c.args.bytes.now.items c.reserve.new.self.items c.push.new.self.items _ c.as_mut_slice.result.now c.write_octets.new.bytes _ c.len-start.result c.resize.new.self.len
    c.in_ok-reserve.ensures.items c.in_ok-push.ensures.items (c.len-start.ensures ∙ c.push.new.self.ok.0) (c.as_mut_slice.ensures.value ∙ c.in_ok-resize.ensures.items) (omega (arith, c.write_octets.auto.bytes, c.resize.new.self.ok.0)) c.write_octets.ensures)
