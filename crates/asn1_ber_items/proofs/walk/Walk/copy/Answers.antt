use Rattle.std.proofs.Common.{◌≡◌, [], ◌∷◌, ◌++◌, ap, refl, sym, subst, ◌∙◌, arith}
use Rattle.std.specs.Bool.{⊤}
use Rattle.asn1_ber_items.specs.Segments.{joined, octets_of_each, segments_of}
use Rattle.asn1_ber_items.specs.Walks.{AreBegun}
use Rattle.asn1_ber_items.proofs.Begun.{all_opened, extended, extended_joined, grow}
use Rattle.asn1_ber_items.proofs.Joined.{joined-more}
use Rattle.asn1_ber_items.proofs.Steps.{steps_over}
use Rattle.asn1_ber_items.proofs.walk.Walk.copy.Goals as goal

pub returns : goal.returns
returns c = λ splits less consistent.
    let a = c.in_ok-append_element.ensures in
    let es = c.args.self.now.begun.items in
    let old = c.args.self.now.written in
    let x = c.in_ok-make_room.ensures consistent.counted in
    let full = octets_of_each c.make_room.new.self.full.items in
    let last = c.make_room.new.self.last.items in
    let new = c.append_element.new.bytes.items in
    let more : joined (full ++ new ∷ []) ≡ joined (segments_of old) ++ a.added =
    ap (λ l. joined (full ++ l ∷ [])) a.joined ∙ joined-more full [] last a.added refl ∙ ap (λ l. l ++ a.added) (extended_joined old c.make_room.new.self x) in
    let s = steps_over es c.args.self.now.left.now c.args.back.now (joined (segments_of old)) a.added (joined (full ++ new ∷ [])) (splits a.added a.is) more
    (all_opened es (segments_of old) consistent.begun) in
    record {
      consistent = record {
        begun = subst (λ l. AreBegun es (λ _. ⊤) (full ++ l ∷ [])) (sym a.joined) (grow es full [] last a.added (extended old c.make_room.new.self x es consistent.begun));
        counted = x.counted;
      };
      ahead = s.ahead;
      behind = s.behind;
      less = omega (arith, less);
    }
