use Rattle.std.proofs.Common.{◌++◌, false, length, ap, ◌∙◌, arith}
use Rattle.asn1_ber_items.proofs.walk.append_element.Goals as goal

pub returns-in-Ok : goal.returns-in-Ok
returns-in-Ok c =
    let b = c.in_ok-begin_element.ensures in
    c.in-Ok.ensures c.args.tag false c.args.bytes.now.items b.added c.args.contents.now b.is
    (c.in_ok-extend_from_slice.ensures.items ∙ ap (λ l. l ++ c.args.contents.now) b.joined)
    (omega (arith, c.len-start.ensures, c.begin_element.new.bytes.ok.0, ap length b.joined))
