use Rattle.std.proofs.Common.{◌≡◌, ◌+◌, ◌*◌, ◌<◌, ◌++◌, ◌∷◌, [], List, suc, length, refl, ap, sym, subst, ◌∙◌}
use Rattle.std.specs.Bool.{⊤}
use Rattle.asn1_ber_items.specs.Segments.{joined, octets_of_each, segments_of}
use Rattle.asn1_ber_items.specs.Walks.{AreBegun, IsClosing, Splits, bytes_after, bytes_behind}
use Rattle.asn1_ber_items.specs.declared.open_element.OpenElement.{OpenElement}
use Rattle.asn1_ber_items.proofs.Begun.{all_opened, begun_too, extended, extended_joined}
use Rattle.asn1_ber_items.proofs.Joined.{joined-last, joined-more}
use Rattle.asn1_ber_items.proofs.Steps.{Steps, less_in, steps_in}
use Rattle.asn1_ber_items.proofs.walk.Walk.begin_constructed.Goals as goal

pub returns-in-Ok : goal.returns-in-Ok
returns-in-Ok c = λ splits less consistent.
    let x = c.in_ok-make_room.ensures consistent.counted in
    let a = c.in_ok-room.ensures x.counted in
    let es = c.args.self.now.begun.items in
    let left = c.args.self.now.left.now in
    let contents = c.args.contents.now in
    let old = c.args.self.now.written in
    let middle = c.make_room.new.self in
    let full = octets_of_each middle.full.items in
    let last = middle.last.items in
    let segments = segments_of middle in
    let new = segments_of c.begin_constructed.new.self in
    let e = c.new-element.result in
    let is = c.new-element.ensures in
    let inside : e.contents ≡ length (joined new) = is.contents ∙ c.in_ok-len.ensures a.counted in
    let more : joined new ≡ joined segments ++ a.front = ap joined a.are ∙ joined-more full [] last a.front refl in
    let pushed = c.in-Ok.ensures.items in
    let all = extended old middle x es consistent.begun in
    let begun = begun_too es e full [] last a.front c.args.tag a.begun (is.segment ∙ a.segment) (ap suc is.index ∙ a.index)
    (inside ∙ ap length more ∙ ap (λ l. length (l ++ a.front)) (joined-last full last)) all in
    let closing = subst (λ x. Splits (IsClosing c.args.tag x contents) left) (sym is.extent) splits in
    let steps = steps_in es e left contents (joined segments) a.front (joined new) c.args.tag a.begun closing more inside (all_opened es segments all) in
    let s = subst (λ (fs : List OpenElement). Steps es fs left contents (joined (segments_of old)) (joined new)) (sym pushed)
    (subst (λ l. Steps es (es ++ e ∷ []) left contents l (joined new)) (extended_joined old middle x) steps) in
    record {
      consistent = record {
        begun = subst (λ fs. AreBegun fs (λ _. ⊤) new) (sym pushed) (subst (AreBegun (es ++ e ∷ []) (λ _. ⊤)) (sym a.are) begun);
        counted = a.counted;
      };
      ahead = s.ahead;
      behind = s.behind;
      less = subst (λ (fs : List OpenElement). 2 * (length contents + bytes_behind fs) + length fs < 2 * (length left + bytes_behind es) + length es) (sym pushed)
          (less_in es e left contents (subst (λ x. length contents + bytes_after x < length left) (sym is.extent) less));
    }
