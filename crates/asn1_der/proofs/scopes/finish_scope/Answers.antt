use Rattle.std.proofs.Common.{◌≡◌, [], ◌++◌, append-nil, subst, ap, ◌∙◌}
use Rattle.std.proofs.lemmas.Result.{MatchResult-weaker}
use Rattle.asn1_der.proofs.Arranging.{can_be_rearranged}
use Rattle.asn1_der.proofs.WrittenElements.{held_as_defined, held_chosen, held_sorted, not_chosen}
use Rattle.asn1_der.specs.WrittenElements.{IsFront}
use Rattle.asn1_der.specs.declared.sorting.Order.TheVariants.{Tags, Encodings}
use Rattle.asn1_der.proofs.scopes.finish_scope.Goals as goal

pub returns-in-AsDefined : goal.returns-in-AsDefined
returns-in-AsDefined c = λ h rs before front inside is starts begins tag content_order have.
    let f = c.args.frame in
    MatchResult-weaker c.end_as_written.result
    (c.end_as_written.ensures f.tag before front inside (subst (λ k. IsFront k f.tag front) c.in-AsDefined.is begins) is starts)
    (λ done w. record { added = w.added; is = held_as_defined h rs inside w.added f.tag f.content_order tag content_order c.in-AsDefined.is have w.is; joined = w.joined })
    (λ e memory other. absurd (other memory))

pub returns-in-ByTag : goal.returns-in-ByTag
returns-in-ByTag c = λ h rs before front inside is starts begins tag content_order have.
    let f = c.args.frame in
    let can = can_be_rearranged rs inside have in
    MatchResult-weaker c.end_sorted.result
    (c.end_sorted.ensures f.tag before front inside can.elements (subst (λ k. IsFront k f.tag front) c.in-ByTag.is begins) is starts can.joined)
    (λ done w. record { added = w.added; is = held_sorted h rs inside w.added f.tag f.content_order Tags tag content_order c.in-ByTag.is can w.is; joined = w.joined })
    (λ e memory other. absurd (other memory))

pub returns-in-ByEncoding : goal.returns-in-ByEncoding
returns-in-ByEncoding c = λ h rs before front inside is starts begins tag content_order have.
    let f = c.args.frame in
    let can = can_be_rearranged rs inside have in
    MatchResult-weaker c.end_sorted-in-ByEncoding.result
    (c.end_sorted-in-ByEncoding.ensures f.tag before front inside can.elements (subst (λ k. IsFront k f.tag front) c.in-ByEncoding.is begins) is starts can.joined)
    (λ done w. record { added = w.added; is = held_sorted h rs inside w.added f.tag f.content_order Encodings tag content_order c.in-ByEncoding.is can w.is; joined = w.joined })
    (λ e memory other. absurd (other memory))

pub returns-in-Chosen : goal.returns-in-Chosen
returns-in-Chosen c = λ h rs before front inside is starts begins tag content_order have.
    let f = c.args.frame in
    let none : front ≡ [] = subst (λ k. IsFront k f.tag front) c.in-Chosen.is begins in
    MatchResult-weaker c.find_chosen.result
    (c.find_chosen.ensures (before ++ front) inside (c.deref.ensures.value ∙ is) starts)
    (λ done one. record { added = inside; is = held_chosen h rs inside f.tag f.content_order tag content_order c.in-Chosen.is have one; joined = is ∙ ap (λ l. (before ++ l) ++ inside) none ∙ ap (λ l. l ++ inside) (append-nil before) })
    (λ e not other. not_chosen h rs inside f.tag f.content_order tag content_order c.in-Chosen.is have not)
