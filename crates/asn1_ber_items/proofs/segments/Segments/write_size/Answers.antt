use Rattle.std.proofs.Common.{◌≡◌, ◌+◌, ◌<◌, ◌∷◌, ◌++◌, [], length, length-append, refl, ap, ◌∙◌, arith}
use Rattle.asn1_ber_items.proofs.Joined.{buffer_is, buffer_set, still_counted}
use Rattle.asn1_ber_items.proofs.segments.Segments.write_size.Goals as goal

pub returns-in-Some-checked_add : goal.returns-in-Some-checked_add
returns-in-Some-checked_add c = λ before after front rest octet are number index counted.
    let full = c.args.self.now.full in
    let last = c.args.self.now.last.items in
    let own = (front ++ octet ∷ []) ++ rest in
    let buffer = c.in-Some.octets.now in
    let grown = c.write_size.new.octets in
    let added = c.in_ok-added-in-Some.added in
    let inside : c.args.room.segment < length full.items = omega (arith, c.in-Some.ensures.variant.0 refl, full.ok.0) in
    let m = c.in_ok-added-in-Some.ensures front rest octet (buffer_is full.items last before after own c.args.room.segment are number inside buffer c.in-Some.ensures.value) index in
    let placed = buffer_set full.items last before after own c.args.room.segment are number inside grown ∙ ap (λ l. before ++ l ∷ after) m.are in
    let longer : length ((front ++ m.octets) ++ rest) ≡ length own + added =
    omega (arith, m.more, length-append (front ++ m.octets) rest, length-append front m.octets, length-append (front ++ octet ∷ []) rest, length-append front (octet ∷ [])) in
    record {
      octets = m.octets;
      is_length = m.is_length;
      are = placed;
      counted = omega (arith, counted, c.in-Some-checked_add.ensures.1, still_counted full.items _ last before after own ((front ++ m.octets) ++ rest) added are placed longer);
    }
