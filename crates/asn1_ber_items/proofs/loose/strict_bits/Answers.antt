use Rattle.std.proofs.Common.{◌≡◌, ◌<◌, [], ◌∷◌, ◌++◌, ap, sym, subst, ◌∙◌, arith}
use Rattle.std.proofs.lemmas.List.{nil_from_length}
use Rattle.asn1_items.specs.Bits.{AreBits}
use Rattle.asn1_ber_items.specs.LooseContents.{AreLooseBits, AreSameBits}
use Rattle.asn1_ber_items.proofs.LooseOctets.{no_octets_same, no_octets_used, same_bits, strict_of}
use Rattle.asn1_ber_items.proofs.loose.strict_bits.Goals as goal

pub returns-in_ok-extend_from_slice-in-Some-split_last-2-clause-found : goal.returns-in_ok-extend_from_slice-in-Some-split_last-2-clause-found
returns-in_ok-extend_from_slice-in-Some-split_last-2-clause-found c = λ bits loose.
    let unused = c.in-Some.unused.now in
    let front = c.in-Some-split_last.front.now in
    let last = c.in-Some-split_last.last.now in
    let new = c.without_unused.result in
    let low : unused < 8 = omega (arith, c.if-unused-gt7.false) in
    let are : c.args.bytes.now ≡ unused ∷ (front ++ last ∷ []) = c.in-Some.ensures.cases.0 ∙ ap (λ l. unused ∷ l) c.in-Some-split_last.ensures.cases.0 in
    let made : c.extend_from_slice-in-Some-split_last-2.new.self.items ≡ unused ∷ (front ++ new ∷ []) =
    c.in_ok-extend_from_slice-in-Some-split_last-2.ensures.items ∙ ap (λ l. l ++ new ∷ []) (c.in_ok-extend_from_slice-in-Some-split_last.ensures.items
    ∙ ap (λ l. l ++ front) (c.in_ok-extend_from_slice.ensures.items ∙ ap (λ l. l ++ unused ∷ []) c.new-bits.ensures.items)) in
    subst (AreBits bits) (sym made) (strict_of unused front last new low c.without_unused.ensures bits (subst (AreLooseBits bits) are loose))

pub returns-in_ok-extend_from_slice-in-Some-split_last-2-clause-only : goal.returns-in_ok-extend_from_slice-in-Some-split_last-2-clause-only
returns-in_ok-extend_from_slice-in-Some-split_last-2-clause-only c =
    let unused = c.in-Some.unused.now in
    let front = c.in-Some-split_last.front.now in
    let last = c.in-Some-split_last.last.now in
    let new = c.without_unused.result in
    let low : unused < 8 = omega (arith, c.if-unused-gt7.false) in
    let are : c.args.bytes.now ≡ unused ∷ (front ++ last ∷ []) = c.in-Some.ensures.cases.0 ∙ ap (λ l. unused ∷ l) c.in-Some-split_last.ensures.cases.0 in
    let made : c.extend_from_slice-in-Some-split_last-2.new.self.items ≡ unused ∷ (front ++ new ∷ []) =
    c.in_ok-extend_from_slice-in-Some-split_last-2.ensures.items ∙ ap (λ l. l ++ new ∷ []) (c.in_ok-extend_from_slice-in-Some-split_last.ensures.items
    ∙ ap (λ l. l ++ front) (c.in_ok-extend_from_slice.ensures.items ∙ ap (λ l. l ++ unused ∷ []) c.new-bits.ensures.items)) in
    subst (λ l. AreSameBits l c.extend_from_slice-in-Some-split_last-2.new.self.items) (sym are) (subst (AreSameBits (unused ∷ (front ++ last ∷ []))) (sym made) (same_bits unused front last new low c.without_unused.ensures))

pub returns-in-None-clause-only : goal.returns-in-None-clause-only
returns-in-None-clause-only c =
    let none = nil_from_length c.in-Some.octets.now c.in-None.ensures.cases in
    let are : c.args.bytes.now ≡ 0 ∷ [] = c.in-Some.ensures.cases.0 ∙ ap (λ l. c.in-Some.unused.now ∷ l) none ∙ ap (λ n. n ∷ []) c.if-unused-eq0.true in
    let made : c.extend_from_slice.new.self.items ≡ 0 ∷ [] =
    c.in_ok-extend_from_slice.ensures.items ∙ ap (λ l. l ++ c.in-Some.unused.now ∷ []) c.new-bits.ensures.items ∙ ap (λ n. n ∷ []) c.if-unused-eq0.true in
    subst (λ l. AreSameBits l c.extend_from_slice.new.self.items) (sym are) (subst (AreSameBits (0 ∷ [])) (sym made) no_octets_same)

pub returns-in-None-2-clause-found : goal.returns-in-None-2-clause-found
returns-in-None-2-clause-found c = λ bits loose.
    let none = nil_from_length c.in-Some.octets.now c.in-None.ensures.cases in
    let are : c.args.bytes.now ≡ c.in-Some.unused.now ∷ [] = c.in-Some.ensures.cases.0 ∙ ap (λ l. c.in-Some.unused.now ∷ l) none in
    absurd (c.if-unused-eq0.false (no_octets_used c.in-Some.unused.now bits (subst (AreLooseBits bits) are loose)).1)
