use Rattle.std.proofs.Common.{rules, ◌≡◌, ◌-◌, ◌*◌, [], ◌∷◌, ◌++◌, ap, subst, sym, ◌∙◌, arith}
use Rattle.std.proofs.lemmas.List.{nil_from_length}
use Rattle.std.proofs.lemmas.Result.{err_from_is_err_and}
use Rattle.asn1_der_items.proofs.ReadingArcs.{IsBegunWith, all_read, arcs_are, first_number, next_arc, one_arc, two_arcs}
use Rattle.asn1_der_items.proofs.arcs_read.read_arcs.Goals as goal

pub returns-in_err-front-clause-read : goal.returns-in_err-front-clause-read
returns-in_err-front-clause-read c = λ list are.
    let f = first_number list c.args.octets.now are in
    absurd (c.in_err-front.ensures.found _ f.at (omega (arith, f.first_of_three, f.fits)))

pub returns-in_err-push_arc-2-clause-read : goal.returns-in_err-push_arc-2-clause-read
returns-in_err-push_arc-2-clause-read c = λ list are.
    let f = first_number list c.args.octets.now are in
    let found = c.in_ok-front.ensures.found _ f.at (omega (arith, f.first_of_three, f.fits)) in
    let first = c.first_of-first.ensures.found f.first f.second found.0 f.first_of_three f.second_below in
    let p = err_from_is_err_and c.from_residual-in_err-push_arc-2.result c.from_residual-in_err-push_arc-2.ensures.1 in
    rw (p.1, p.2) (c.in_err-push_arc-2.ensures.pushed (omega (arith, found.0, first, f.fits)))

pub loop-left-init : goal.loop-left-init
loop-left-init c = record {
  read = λ list are.
      let f = first_number list c.args.octets.now are in
      let found = c.in_ok-front.ensures.found _ f.at (omega (arith, f.first_of_three, f.fits)) in
      let first = c.first_of-first.ensures.found f.first f.second found.0 f.first_of_three f.second_below in
      let second : c.in_ok-front.front.number - c.first_of-first.result * 40 ≡ f.second = omega (arith, found.0, first) in
      let one = c.in_ok-push_arc.ensures.pushed (omega (arith, first, f.first_of_three)) in
      let two = c.in_ok-push_arc-2.ensures.pushed (omega (arith, second, f.fits)) in
      let read : c.push_arc-2.new.arcs.items ≡ ([] ++ f.first ∷ []) ++ f.second ∷ [] =
      two ∙ ap (λ n. c.push_arc.new.arcs.items ++ n ∷ []) second
      ∙ ap (λ l. l ++ f.second ∷ []) (one ∙ ap (λ n. c.in_ok-arcs.arcs.items ++ n ∷ []) first ∙ ap (λ l. l ++ f.first ∷ []) c.in_ok-arcs.ensures.items) in
      rw found.1 (f.after c.push_arc-2.new.arcs.items read);
  only =
      let first = c.first_of-first.result in
      let second = c.in_ok-front.front.number - first * 40 in
      let one = c.in_ok-push_arc.ensures.pushed c.in_ok-push_arc.ensures.only in
      let two = c.in_ok-push_arc-2.ensures.pushed c.in_ok-push_arc-2.ensures.only in
      subst (λ read. IsBegunWith c.args.octets.now read c.in_ok-front.front.rest.now) (sym (two ∙ ap (λ l. l ++ second ∷ []) (one ∙ ap (λ l. l ++ first ∷ []) c.in_ok-arcs.ensures.items)))
      (two_arcs first second c.args.octets.now _ c.in_ok-front.ensures.only (omega (arith, c.first_of-first.ensures.within)) c.first_of-first.ensures.small
      (λ low. omega (arith, c.first_of-first.ensures.second low, c.first_of-first.ensures.within)) c.in_ok-push_arc.ensures.only c.in_ok-push_arc-2.ensures.only);
}

pub returns-in_err-front-2-clause-read : goal.returns-in_err-front-2-clause-read
returns-in_err-front-2-clause-read c = λ list are.
    let n = next_arc list c.loop-left.arcs.items c.loop-left.left.now (c.loop-left.invariant.read list are) (λ none. search rules) in
    absurd (c.in_err-front-2.ensures.found _ n.at (let f = n.fits in omega arith))

pub returns-in_err-push_arc-3-clause-read : goal.returns-in_err-push_arc-3-clause-read
returns-in_err-push_arc-3-clause-read c = λ list are.
    let n = next_arc list c.loop-left.arcs.items c.loop-left.left.now (c.loop-left.invariant.read list are) (λ none. search rules) in
    let found = c.in_ok-front-2.ensures.found _ n.at (let f = n.fits in omega arith) in
    let p = err_from_is_err_and c.from_residual-in_err-push_arc-3.result c.from_residual-in_err-push_arc-3.ensures.1 in
    rw (p.1, p.2) (c.in_err-push_arc-3.ensures.pushed (omega (arith, found.0, n.fits)))

pub loop-left-preserved : goal.loop-left-preserved
loop-left-preserved c = record {
  read = λ list are.
      let n = next_arc list c.loop-left.arcs.items c.loop-left.left.now (c.loop-left.invariant.read list are) (λ none. search rules) in
      let found = c.in_ok-front-2.ensures.found _ n.at (let f = n.fits in omega arith) in
      let pushed = c.in_ok-push_arc-3.ensures.pushed (omega (arith, found.0, n.fits)) in
      rw found.1 (n.after c.push_arc-in-loop-left.new.arcs.items (pushed ∙ ap (λ k. c.loop-left.arcs.items ++ k ∷ []) found.0));
  only = subst (λ read. IsBegunWith c.args.octets.now read c.in_ok-front-2.front.rest.now) (sym (c.in_ok-push_arc-3.ensures.pushed c.in_ok-push_arc-3.ensures.only))
      (one_arc c.args.octets.now c.loop-left.arcs.items c.loop-left.left.now _ c.in_ok-front-2.ensures.only c.in_ok-push_arc-3.ensures.only c.loop-left.invariant.only);
}

pub returns : goal.returns
returns c = record {
  read = λ list are. all_read list c.loop-left.arcs.items c.loop-left.left.now (nil_from_length c.loop-left.left.now (search rules)) (c.loop-left.invariant.read list are);
  only = arcs_are c.args.octets.now c.loop-left.arcs.items c.loop-left.left.now (nil_from_length c.loop-left.left.now (search rules)) c.loop-left.invariant.only;
}
