-- The steps of a walk.
use Rattle.std.proofs.Common.{◌≡◌, ◌≢◌, ℕ, ◌+◌, ◌*◌, ◌<◌, ◌≤◌, true, List, [], ◌∷◌, ◌++◌, None, Some, length, length-append, refl, ap, sym, subst, ◌∙◌, arith}
use Rattle.std.specs.Bool.{⊤}
use Rattle.asn1_items.specs.declared.error.ItemError.{ItemError}
use Rattle.asn1_items.specs.declared.error.ItemError.TheVariants.{Malformed, Memory, Missing}
use Rattle.asn1_tags.specs.declared.tags.Tag.{Tag}
use Rattle.asn1_der_items.specs.Elements.{IsBegun, IsElement}
use Rattle.asn1_ber_items.specs.Headers.{Header, end_of_contents, header_at}
use Rattle.asn1_der_items.specs.Cuts.{IsMissing}
use Rattle.asn1_ber_items.specs.Walks.{Comes, IsAfter, IsClosing, IsCopy, IsOver, IsRefused, Outcome, Remains, Splits, bytes_after, bytes_behind, end_of, extent_of}
use Rattle.asn1_ber_items.specs.declared.open_element.Extent.{Extent}
use Rattle.asn1_ber_items.specs.declared.open_element.Extent.TheVariants.{Definite, Indefinite}
use Rattle.asn1_ber_items.specs.declared.open_element.OpenElement.{OpenElement}
use Rattle.asn1_ber_items.specs.declared.walk.Walk.{Walk}
use Rattle.asn1_ber_items.proofs.Splits.{Begins, with_end, with_length, with_octets}
use Rattle.asn1_ber_items.proofs.Walking.{AreOpen, IsOpenIn, comes_back, consumed, ends_ahead, ends_behind, goes_in, produced}

-- A step over raw lists: the open elements, the bytes left and those that were written, before and after.
pub record Steps (es fs : List OpenElement) (left back written new : List ℕ) : Type 0 where
  pub ahead : (outcome : Outcome) → ¬ IsOver outcome es left written → Comes es (Remains outcome) left written → Comes fs (Remains outcome) back new
  pub behind : (outcome : Outcome) → ¬ IsOver outcome es left written → Comes fs (Remains outcome) back new → Comes es (Remains outcome) left written

bytes_behind-last : (es : List OpenElement) (e : OpenElement) → bytes_behind (es ++ e ∷ []) ≡ bytes_behind es + bytes_after (extent_of e)
bytes_behind-last [] e = omega arith
bytes_behind-last (f ∷ es) e = omega (arith, bytes_behind-last es e)

-- a constructed element that ends
pub steps_out : (es outer : List OpenElement) (e : OpenElement) (left back written new own : List ℕ) → es ≡ outer ++ e ∷ [] → left ≡ end_of (extent_of e) back → IsAfter (extent_of e) back →
    (b : IsOpenIn e (AreOpen outer (λ _. ⊤)) written) → IsElement b.tag true b.contents own → new ≡ b.before ++ own → Steps es outer left back written new
steps_out es outer e left back written new own are ends after b element joined = record {
  ahead = λ outcome more comes. subst (λ l. Comes outer (Remains outcome) back l) (sym joined)
      (ends_ahead outer e left written back own ends after b element outcome (subst (λ fs. Comes fs (Remains outcome) left written) are comes));
  behind = λ outcome more comes. subst (λ fs. Comes fs (Remains outcome) left written) (sym are)
      (ends_behind outer e left written back own ends after b element outcome (subst (λ l. Comes outer (Remains outcome) back l) joined comes));
}

-- less is left to do after an element that ends
extent_less : (x : Extent) (left back : List ℕ) (n : ℕ) → left ≡ end_of x back → IsAfter x back → 2 * (length back + n) < 2 * (length left + (n + bytes_after x)) + 1
extent_less (Definite after) left back n ends after_is = omega (arith, ap length ends, ap length after_is)
extent_less Indefinite left back n ends after_is = omega (arith, ap length ends)

pub less_out : (es outer : List OpenElement) (e : OpenElement) (left back : List ℕ) → es ≡ outer ++ e ∷ [] → left ≡ end_of (extent_of e) back → IsAfter (extent_of e) back →
    2 * (length back + bytes_behind outer) + length outer < 2 * (length left + bytes_behind es) + length es
less_out es outer e left back are ends after =
    omega (arith, ap bytes_behind are, ap length are, length-append outer (e ∷ []), bytes_behind-last outer e, extent_less (extent_of e) left back (bytes_behind outer) ends after)

-- a constructed element that begins
pub steps_in : (es : List OpenElement) (e : OpenElement) (left contents written front new : List ℕ) (tag : Tag) → IsBegun tag true front → Splits (IsClosing tag (extent_of e) contents) left →
    new ≡ written ++ front → e.contents ≡ length new → AreOpen es (λ _. ⊤) written → Steps es (es ++ e ∷ []) left contents written new
steps_in es e left contents written front new tag begun splits joined inside consistent =
    let at : e.contents ≡ length (written ++ front) = inside ∙ ap length joined in
    record {
      ahead = λ outcome more comes.
          let q = consumed (IsClosing tag (extent_of e) contents) left splits outcome written es more consistent comes in
          subst (λ l. Comes (es ++ e ∷ []) (Remains outcome) contents l) (sym joined) (goes_in es e contents written front tag begun at outcome q.own q.back q.is q.comes);
      behind = λ outcome more comes.
          let q = comes_back es e contents written front tag begun at outcome (subst (λ l. Comes (es ++ e ∷ []) (Remains outcome) contents l) joined comes) in
          produced (IsClosing tag (extent_of e) contents) left splits outcome written es q.own q.back q.is more consistent q.comes;
    }

pub less_in : (es : List OpenElement) (e : OpenElement) (left contents : List ℕ) → length contents + bytes_after (extent_of e) < length left →
    2 * (length contents + bytes_behind (es ++ e ∷ [])) + length (es ++ e ∷ []) < 2 * (length left + bytes_behind es) + length es
less_in es e left contents less = omega (arith, less, bytes_behind-last es e, length-append es (e ∷ []))

-- a primitive element
pub steps_over : (es : List OpenElement) (left back written own new : List ℕ) → Splits (IsCopy own back) left → new ≡ written ++ own → AreOpen es (λ _. ⊤) written → Steps es es left back written new
steps_over es left back written own new splits joined consistent = record {
  ahead = λ outcome more comes.
      let q = consumed (IsCopy own back) left splits outcome written es more consistent comes in
      subst (λ l. Comes es (Remains outcome) back l) (sym joined)
      (subst (λ l. Comes es (Remains outcome) back (written ++ l)) q.is.own_is (subst (λ l. Comes es (Remains outcome) l (written ++ q.own)) q.is.back_is q.comes));
  behind = λ outcome more comes. produced (IsCopy own back) left splits outcome written es own back (record { own_is = refl; back_is = refl }) more consistent (subst (λ l. Comes es (Remains outcome) back l) joined comes);
}

-- what an element that begins has to be, by its header
some_is : {A : Type 0} {x y : A} → Some x ≡ Some y → x ≡ y
some_is e = cc

pub its_header : (left : List ℕ) (h : Header) → header_at left ≡ Some h → Begins left → (h.tag ≢ end_of_contents) × (h.size ≡ None → h.constructed ≡ true)
its_header left h at (with_octets g contents back begin is) =
    let same : g ≡ h = some_is (sym begin.at ∙ at) in (
      subst (λ (i : Header). i.tag ≢ end_of_contents) same begin.is_element,
      λ none. let e : Some (length contents) ≡ None = sym is.size ∙ ap (λ (i : Header). i.size) same ∙ none in cc,
    )
its_header left h at (with_length g contents back begin is) =
    let same : g ≡ h = some_is (sym begin.at ∙ at) in
    (subst (λ (i : Header). i.tag ≢ end_of_contents) same begin.is_element, λ none. sym (ap (λ (i : Header). i.constructed) same) ∙ begin.form)
its_header left h at (with_end g begin none) =
    let same : g ≡ h = some_is (sym begin.at ∙ at) in
    (subst (λ (i : Header). i.tag ≢ end_of_contents) same begin.is_element, λ none. sym (ap (λ (i : Header). i.constructed) same) ∙ begin.form)

pub has_header : (left : List ℕ) → Begins left → (h : Header) × (header_at left ≡ Some h)
has_header left (with_octets h contents back begin is) = (h, begin.at)
has_header left (with_length h contents back begin is) = (h, begin.at)
has_header left (with_end h begin none) = (h, begin.at)

-- as many bytes as its length says are there
pub has_contents : (left : List ℕ) (h : Header) (size : ℕ) → header_at left ≡ Some h → h.size ≡ Some size → Begins left → size ≤ length h.rest
has_contents left h size at is (with_octets g contents back begin d) =
    let same : g ≡ h = some_is (sym begin.at ∙ at) in
    let long : length contents ≡ size = some_is (sym d.size ∙ ap (λ (i : Header). i.size) same ∙ is) in
    omega (arith, long, ap length (sym (ap (λ (i : Header). i.rest) same) ∙ d.are), length-append contents back)
has_contents left h size at is (with_length g contents back begin d) =
    let same : g ≡ h = some_is (sym begin.at ∙ at) in
    let long : length contents ≡ size = some_is (sym d.size ∙ ap (λ (i : Header). i.size) same ∙ is) in
    omega (arith, long, ap length (sym (ap (λ (i : Header). i.rest) same) ∙ d.are), length-append contents back)
has_contents left h size at is (with_end g begin none) =
    let e : None ≡ Some size = sym none ∙ ap (λ (i : Header). i.size) (some_is (sym begin.at ∙ at)) ∙ is in cc

-- a step for which there was no memory
pub no_memory : (walk : Walk) (e : ItemError) → e ≡ Memory → IsRefused walk e
no_memory walk e memory = record { stuck = λ other. absurd (other memory); not_missing = λ missing. subst IsMissing memory missing }

-- an error that cannot be another is that there was no memory
pub only_memory : (e : ItemError) → ((e ≢ Memory) → ⊥) → e ≡ Memory
only_memory Memory never = refl
only_memory (Missing count) never = absurd (never (λ e. cc))
only_memory Malformed never = absurd (never (λ e. cc))
