use Rattle.std.proofs.Common.{◌≡◌, ◌++◌, length, sym, subst, ◌∙◌, arith}
use Rattle.std.specs.Bool.{⊤}
use Rattle.asn1_der_items.specs.Lengths.{IsLength}
use Rattle.asn1_ber_items.specs.Segments.{joined, segments_of}
use Rattle.asn1_ber_items.specs.Walks.{AreBegun, IsAfter, end_of, extent_of}
use Rattle.asn1_ber_items.specs.declared.open_element.OpenElement.{OpenElement}
use Rattle.asn1_ber_items.proofs.Begun.{all_opened, begun_in, ended_begun, ended_is, ended_joined, opened, room_at, room_last, size_is}
use Rattle.asn1_ber_items.proofs.Snoc.{same_last}
use Rattle.asn1_ber_items.proofs.Steps.{less_out, steps_out}
use Rattle.asn1_ber_items.proofs.Walking.{AreOpen}
use Rattle.asn1_ber_items.proofs.walk.Walk.end_innermost.Goals as goal

pub returns : goal.returns
returns c = λ ending consistent.
    let e = c.in-Some.element in
    let outer = c.pop.new.self.items in
    let left = c.args.self.now.left.now in
    let back = c.args.back.now in
    let segments = segments_of c.args.self.now.written in
    let new = segments_of c.write_size.new.self in
    let popped = c.in-Some.ensures.items in
    let same = same_last ending.outer outer ending.innermost e (sym ending.are ∙ popped) in
    let ends = subst (λ (f : OpenElement). left ≡ end_of (extent_of f) back) same.last ending.ends in
    let after = subst (λ (f : OpenElement). IsAfter (extent_of f) back) same.last ending.after in
    let b = begun_in outer e (λ _. ⊤) segments (subst (λ es. AreBegun es (λ _. ⊤) segments) popped consistent.begun) in
    let m = c.in_ok-write_size.ensures b.before b.after (b.outside ++ b.begun.identifier) b.rest b.begun.room (room_last outer e segments b) (c.room.ensures.segment ∙ b.segment) (c.room.ensures.index ∙ room_at outer e segments b) consistent.counted in
    let size : c.saturating_sub-size.result ≡ length (b.rest ++ joined b.after) = omega (arith, c.saturating_sub-size.ensures, c.in_ok-written.ensures consistent.counted, size_is outer e segments b) in
    let is_length = subst (λ n. IsLength n m.octets) size m.is_length in
    let inside = opened e (AreBegun outer (λ _. ⊤)) (AreOpen outer (λ _. ⊤)) (all_opened outer) segments b in
    let own = b.begun.identifier ++ (m.octets ++ (b.rest ++ joined b.after)) in
    let s = steps_out c.args.self.now.begun.items outer e left back (joined segments) (joined new) own popped ends after inside
    (ended_is outer e segments b m.octets new is_length m.are) (ended_joined outer e segments b m.octets new is_length m.are) in
    record {
      consistent = record { begun = ended_begun outer e segments b m.octets new is_length m.are; counted = m.counted };
      ahead = s.ahead;
      behind = s.behind;
      less = less_out c.args.self.now.begun.items outer e left back popped ends after;
    }
