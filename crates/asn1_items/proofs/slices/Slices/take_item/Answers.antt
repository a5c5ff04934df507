use Rattle.std.proofs.Common.{◌≡◌, ◌++◌, length, take, drop, refl, sym, ap, ◌∙◌}
use Rattle.std.proofs.lemmas.List.{take-append-drop}
use Rattle.std.proofs.Math.Seq.{take-append_seam, drop-append_seam}
use Rattle.asn1_items.proofs.HeaderBytes.{expected_is, item_is}
use Rattle.asn1_items.proofs.Items.{header_front, front_is}
use Rattle.asn1_items.proofs.slices.Slices.take_item.Goals as goal

pub returns-clause-took : goal.returns-clause-took
returns-clause-took c = λ h inside back e body size meets.
    let found = c.in_ok-header.ensures.found h e in
    let split = c.in-Some.ensures.cases in
    let whole : c.in_ok-header.header.body.now ≡ inside ++ back = found.body ∙ body in
    let long : c.in_ok-header.header.size ≡ length inside = found.size ∙ size in
    let left : c.in-Some.rest.now ≡ back = split.2 ∙ ap (λ n. drop n c.in_ok-header.header.body.now) long ∙ ap (drop (length inside)) whole ∙ drop-append_seam inside back in
    let front = header_front c.args.self.now.left.now h e in
    record {
      tag = found.tag;
      inside_is = split.1 ∙ ap (λ n. take n c.in_ok-header.header.body.now) long ∙ ap (take (length inside)) whole ∙ take-append_seam inside back;
      bytes = front_is c.args.self.now.left.now front.0 inside back (length c.in-Some.rest.now) (front.1 ∙ ap (λ l. front.0 ++ l) body) (ap length left);
      left = left;
    }

pub returns-clause-only : goal.returns-clause-only
returns-clause-only c =
    let header = c.in_ok-header.header in
    let of = c.in_ok-header.ensures.only in
    let split = c.in-Some.ensures.cases in
    let taken = item_is c.args.self.now.left.now _ c.in-Some.body.now c.in-Some.rest.now header c.in_ok-header.ensures.are
    (sym (ap (λ l. l ++ c.in-Some.rest.now) split.1 ∙ ap (λ l. take header.size header.body.now ++ l) split.2 ∙ take-append-drop header.size header.body.now)) (sym split.3) refl in
    record { is = expected_is c.args.expected of.header header c.in-Some.body.now _ of.is ((c.is_met_by.ensures.met of.header of.is).0 c.if-not-is_met_by.false) taken.0; left = taken.1 }
