use Rattle.std.proofs.Common.{◌≡◌, ◌∷◌, ◌++◌, [], ℕ, length, ap, sym, ◌∙◌}
use Rattle.std.proofs.lemmas.List.{map-append}
use Rattle.std.specs.Prelude.{Vec}
use Rattle.std.specs.declared.alloc.Global.{Global}
use Rattle.asn1_ber_items.specs.Segments.{joined, octets_of_each}
use Rattle.asn1_ber_items.proofs.segments.Segments.begin_segment.Goals as goal

pub returns-clause-segments : goal.returns-clause-segments
returns-clause-segments c =
    let full = c.args.self.now.full.items in
    let last = c.replace-last.result in
    let pushed : octets_of_each c.push.new.self.items ≡ octets_of_each full ++ c.args.self.now.last.items ∷ [] =
    ap octets_of_each c.in_ok-push.ensures.items ∙ map-append (λ (b : Vec ℕ Global). b.items) full (last ∷ []) ∙ ap (λ (b : Vec ℕ Global). octets_of_each full ++ b.items ∷ []) c.replace-last.ensures.value in
    ap (λ (b : Vec ℕ Global). octets_of_each c.push.new.self.items ++ b.items ∷ []) c.replace-last.ensures.after ∙ ap (λ l. octets_of_each c.push.new.self.items ++ l ∷ []) c.new.ensures.items
    ∙ ap (λ l. l ++ [] ∷ []) pushed

pub returns-clause-counted : goal.returns-clause-counted
returns-clause-counted c = λ counted.
    let full = c.args.self.now.full.items in
    let last = c.replace-last.result in
    let pushed : octets_of_each c.push.new.self.items ≡ octets_of_each full ++ c.args.self.now.last.items ∷ [] =
    ap octets_of_each c.in_ok-push.ensures.items ∙ map-append (λ (b : Vec ℕ Global). b.items) full (last ∷ []) ∙ ap (λ (b : Vec ℕ Global). octets_of_each full ++ b.items ∷ []) c.replace-last.ensures.value in
    c.in_ok-self.ensures counted ∙ ap (λ l. length (joined l)) (sym pushed)
