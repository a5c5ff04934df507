-- Octets that end inside the first element end inside what follows its header.
use Rattle.std.proofs.Common.{◌≡◌, ◌≢◌, ℕ, suc, ◌<◌, true, false, List, ◌∷◌, None, Some, length, length-append, refl, ap, sym, subst, ◌∙◌, arith}
use Rattle.asn1_der_items.specs.Cuts.{EndEarly}
use Rattle.asn1_ber_items.specs.Ends.{BeginDefinite, BeginIndefinite, EndsInside, IsCutContents, IsOver, behind_definite, behind_end, in_contents, in_header, in_indefinite}
use Rattle.asn1_ber_items.specs.Headers.{Header, end_of_contents, header_at}
use Rattle.asn1_ber_items.specs.Spellings.{IsDefinite}
use Rattle.asn1_ber_items.specs.Walks.{end_octets}
use Rattle.asn1_ber_items.proofs.Ends.{wrong_size}
use Rattle.asn1_ber_items.proofs.Splits.{no_element, one_extent}

some_is : {A : Type 0} {x y : A} → Some x ≡ Some y → x ≡ y
some_is e = cc

-- a header that is there does not end early
not_early : (octets : List ℕ) (h : Header) → header_at octets ≡ Some h → EndEarly header_at octets → ⊥
not_early octets h at early = let wrong : None ≡ Some h = sym early.none ∙ at in cc

-- the contents octets are there
not_cut : (octets contents back : List ℕ) → BeginDefinite octets contents back → IsCutContents octets → ⊥
not_cut octets contents back d cut =
    let same : cut.header ≡ d.header = some_is (sym cut.at ∙ d.at) in
    let long : cut.long ≡ length contents = some_is (sym cut.size ∙ ap (λ (h : Header). h.size) same ∙ d.is.size) in
    omega (arith, cut.few, long, ap (λ (h : Header). length h.rest) same, ap length d.is.are, length-append contents back)

-- no octets end where end-of-contents octets are the header of an element
no_end : (h : Header) (back : List ℕ) → header_at (0 ∷ 0 ∷ back) ≡ Some h → h.tag ≢ end_of_contents → ⊥
no_end h back at some = no_element h.constructed h (0 ∷ 0 ∷ back) (end_octets back) (record { at = at; is_element = some; form = refl })

-- Inside so many open elements, of which there is one at least, the octets end.
pub record EndsWithin (n : ℕ) (back : List ℕ) : Type 0 where
  pub some : 0 < n
  pub ends : EndsInside n back

-- behind an element of a definite length
pub later_definite : (n : ℕ) (octets contents back : List ℕ) → EndsInside n octets → BeginDefinite octets contents back → EndsWithin n back
later_definite _ _ contents back (in_header n octets cut) d = absurd (not_early octets d.header d.at cut)
later_definite _ _ contents back (in_contents n octets cut) d = absurd (not_cut octets contents back d cut)
later_definite _ _ contents back (behind_definite n octets held after b ends) d =
    let same : b.header ≡ d.header = some_is (sym b.at ∙ d.at) in
    let e = one_extent d.header held after contents back (subst (λ (h : Header). IsDefinite h held after) same b.is) d.is in
    record { some = omega arith; ends = subst (EndsInside (suc n)) e.back_is ends }
later_definite _ _ contents back (in_indefinite n octets inside b ends) d = absurd (wrong_size octets contents back inside d.header d.at d.is b)
later_definite _ _ contents back (behind_end n after ends) d = absurd (no_end d.header after d.at d.is_element)

-- behind the header of one of an indefinite length
pub later_indefinite : (n : ℕ) (octets inside : List ℕ) → EndsInside n octets → BeginIndefinite octets inside → EndsInside (suc n) inside
later_indefinite _ _ inside (in_header n octets cut) b = absurd (not_early octets b.header b.begin.at cut)
later_indefinite _ _ inside (in_contents n octets cut) b =
    let same : cut.header ≡ b.header = some_is (sym cut.at ∙ b.begin.at) in
    let wrong : Some cut.long ≡ None = sym cut.size ∙ ap (λ (h : Header). h.size) same ∙ b.size in cc
later_indefinite _ _ inside (behind_definite n octets held after d ends) b = absurd (wrong_size octets held after inside d.header d.at d.is b)
later_indefinite _ _ inside (in_indefinite n octets held a ends) b =
    let same : a.header ≡ b.header = some_is (sym a.begin.at ∙ b.begin.at) in
    subst (EndsInside (suc n)) (sym a.are ∙ ap (λ (h : Header). h.rest) same ∙ b.are) ends
later_indefinite _ _ inside (behind_end n after ends) b = absurd (no_end b.header after b.begin.at b.begin.is_element)

-- Behind end-of-contents octets one element less is open, and one at least.
pub record EndsOutside (n : ℕ) (back : List ℕ) : Type 0 where
  pub outer : ℕ
  pub is : n ≡ suc outer
  pub some : 0 < outer
  pub ends : EndsInside outer back

later_two : (back rest : List ℕ) → 0 ∷ 0 ∷ back ≡ 0 ∷ 0 ∷ rest → back ≡ rest
later_two back rest e = cc

pub later_end : (n : ℕ) (octets back : List ℕ) → EndsInside n octets → octets ≡ 0 ∷ 0 ∷ back → EndsOutside n back
later_end _ _ back (in_header n octets cut) is = absurd (not_early (0 ∷ 0 ∷ back) (record { tag = end_of_contents; constructed = false; size = Some 0; rest = back }) refl (subst (EndEarly header_at) is cut))
later_end _ _ back (in_contents n octets cut) is = absurd (no_end cut.header back (sym (ap header_at is) ∙ cut.at) cut.is_element)
later_end _ _ back (behind_definite n octets held after d ends) is = absurd (no_end d.header back (sym (ap header_at is) ∙ d.at) d.is_element)
later_end _ _ back (in_indefinite n octets inside b ends) is = absurd (no_end b.header back (sym (ap header_at is) ∙ b.begin.at) b.begin.is_element)
later_end _ _ back (behind_end n after ends) is = record { outer = suc n; is = refl; some = omega arith; ends = subst (EndsInside (suc n)) (later_two after back is) ends }

-- the header ends early, if none is there
pub no_header : (n : ℕ) (octets : List ℕ) → EndsInside n octets → ((h : Header) → header_at octets ≡ Some h → ⊥) → EndEarly header_at octets
no_header _ _ (in_header n octets cut) none = cut
no_header _ _ (in_contents n octets cut) none = absurd (none cut.header cut.at)
no_header _ _ (behind_definite n octets held after d ends) none = absurd (none d.header d.at)
no_header _ _ (in_indefinite n octets inside b ends) none = absurd (none b.header b.begin.at)
no_header _ _ (behind_end n after ends) none = absurd (none (record { tag = end_of_contents; constructed = false; size = Some 0; rest = after }) refl)

-- A header that is there is that of an element.
pub record IsOfElement (h : Header) : Type 0 where
  pub is_element : h.tag ≢ end_of_contents
  pub form : h.size ≡ None → h.constructed ≡ true

of_element : (octets : List ℕ) (g h : Header) → header_at octets ≡ Some g → header_at octets ≡ Some h → IsOfElement g → IsOfElement h
of_element octets g h a b is = subst IsOfElement (some_is (sym a ∙ b)) is

with_size : (g : Header) (size : ℕ) → g.tag ≢ end_of_contents → g.size ≡ Some size → IsOfElement g
with_size g size some is = record { is_element = some; form = λ none. (let wrong : Some size ≡ None = sym is ∙ none in cc) }

pub has_element : (n : ℕ) (octets : List ℕ) (h : Header) → EndsInside n octets → header_at octets ≡ Some h → ¬ IsOver n octets → IsOfElement h
has_element _ _ h (in_header n octets cut) at more = absurd (not_early octets h at cut)
has_element _ _ h (in_contents n octets cut) at more = of_element octets cut.header h cut.at at (with_size cut.header cut.long cut.is_element cut.size)
has_element _ _ h (behind_definite n octets held after d ends) at more = of_element octets d.header h d.at at (with_size d.header (length held) d.is_element d.is.size)
has_element _ _ h (in_indefinite n octets inside b ends) at more = of_element octets b.header h b.begin.at at (record { is_element = b.begin.is_element; form = λ none. b.begin.form })
has_element _ _ h (behind_end n after ends) at more = absurd (more (after, refl))
