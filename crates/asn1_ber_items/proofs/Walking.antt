-- Each step of a walk leaves what it will have written.
use Rattle.std.proofs.Common.{◌≡◌, ◌≢◌, ◌⊎◌, inl, inr, ℕ, ◌-◌, ◌≤◌, true, List, [], ◌∷◌, ◌++◌, append-nil, length, length-append, take, drop, refl, ap, sym, subst, ◌∙◌, arith}
use Rattle.std.specs.Bool.{⊤}
use Rattle.std.proofs.Math.Seq.{drop-append_seam, take-append_seam}
use Rattle.std.proofs.lemmas.List.{append_assoc, drop-append-le, take-append-le}
use Rattle.asn1_der_items.proofs.Encodings.{one_identifier, one_length}
use Rattle.asn1_der_items.proofs.OneElement.{some_bytes as one_has_bytes}
use Rattle.asn1_der_items.specs.Elements.{IsBegun, IsElement}
use Rattle.asn1_der_items.specs.Lengths.{IsLength}
use Rattle.asn1_tags.specs.declared.tags.Tag.{Tag}
use Rattle.asn1_ber_items.specs.Spellings.{Spells, SpellsOne, nothing}
use Rattle.asn1_ber_items.specs.Walks.{AreInside, AreLast, Comes, IsAfter, IsClosing, IsEnd, IsFront, IsOver, Outcome, Remains, Splits, end_octets, end_of, nothing_left, of_all, of_first, extent_of}
use Rattle.asn1_ber_items.specs.declared.open_element.Extent.{Extent}
use Rattle.asn1_ber_items.specs.declared.open_element.Extent.TheVariants.{Definite, Indefinite}
use Rattle.asn1_ber_items.specs.declared.open_element.OpenElement.{OpenElement}
use Rattle.asn1_ber_items.proofs.Snoc.{IsSnoc, view}
use Rattle.asn1_ber_items.proofs.Splits.{Begins, none_begins, none_or_more}

-- The element was begun in what was written, and its contents octets are the last of that.
pub record IsOpenIn (e : OpenElement) (Before : List ℕ → Type 0) (written : List ℕ) : Type 0 where
  pub before : List ℕ
  pub front : List ℕ
  pub contents : List ℕ
  pub tag : Tag
  pub begun : IsBegun tag true front
  pub are : written ≡ (before ++ front) ++ contents
  pub inside : e.contents ≡ length (before ++ front)
  pub outer : Before before

-- the open elements were begun, each inside the one before it
abbrev pub AreOpen : List OpenElement → (List ℕ → Type 0) → List ℕ → Type 0
AreOpen [] Before written = Before written
AreOpen (e ∷ es) Before written = AreOpen es (IsOpenIn e Before) written

-- what is to come inside the last element
pub comes_in : (es : List OpenElement) (e : OpenElement) (Later : List ℕ → List ℕ → Type 0) (left written : List ℕ) → Comes (es ++ e ∷ []) Later left written → AreInside e (Comes es Later) left written
comes_in [] e Later left written c = c
comes_in (f ∷ es) e Later left written c = comes_in es e (AreInside f Later) left written c

pub comes_out : (es : List OpenElement) (e : OpenElement) (Later : List ℕ → List ℕ → Type 0) (left written : List ℕ) → AreInside e (Comes es Later) left written → Comes (es ++ e ∷ []) Later left written
comes_out [] e Later left written c = c
comes_out (f ∷ es) e Later left written c = comes_out es e (AreInside f Later) left written c

pub open_in : (es : List OpenElement) (e : OpenElement) (Before : List ℕ → Type 0) (written : List ℕ) → AreOpen (es ++ e ∷ []) Before written → IsOpenIn e (AreOpen es Before) written
open_in [] e Before written b = b
open_in (f ∷ es) e Before written b = open_in es e (IsOpenIn f Before) written b

-- an end is one
pub is_end : (x : Extent) (back : List ℕ) → IsEnd (end_of x back)
is_end (Definite after) back = nothing_left
is_end Indefinite back = end_octets back

-- What is to come of an element that is there, in front of what comes after it.
pub record Consumed (Is : List ℕ → List ℕ → Type 0) (es : List OpenElement) (outcome : Outcome) (written : List ℕ) : Type 0 where
  pub own : List ℕ
  pub back : List ℕ
  pub is : Is own back
  pub comes : Comes es (Remains outcome) back (written ++ own)

-- the first element was written, where something was
pub front_there : (normal rest left own : List ℕ) → own ≢ [] → normal ≡ own → rest ≡ left → IsFront normal rest left own
front_there normal rest left [] some n r = absurd (some refl)
front_there normal rest left (o ∷ own) some n r = (n, r)

pub front_was : (normal rest left own : List ℕ) → own ≢ [] → IsFront normal rest left own → (normal ≡ own) × (rest ≡ left)
front_was normal rest left [] some f = absurd (some refl)
front_was normal rest left (o ∷ own) some f = f

-- where nothing is open
module _ (Is : List ℕ → List ℕ → Type 0) (left : List ℕ) (splits : Splits Is left) where
  consumed_last : (outcome : Outcome) (written : List ℕ) → ¬ IsOver outcome [] left written → Remains outcome left written → Consumed Is [] outcome written
  consumed_last (of_all normal) written more l =
      let s = splits.ahead l.others [] nothing_left l.spell in
      record {
        own = s.own;
        back = s.back;
        is = s.is;
        comes = record { others = s.later; spell = s.spell; are = l.are ∙ ap (λ x. written ++ x) s.are ∙ sym (append_assoc written s.own s.later) };
      }
  consumed_last (of_first normal rest) [] more s = record {
    own = normal;
    back = rest;
    is = splits.alone normal rest s;
    comes = front_there normal rest rest normal (one_has_bytes normal s.one) refl refl;
  }
  consumed_last (of_first normal rest) (o ∷ written) more s = absurd (more (refl, λ e. cc))

  produced_last : (outcome : Outcome) (written own back : List ℕ) → Is own back → ¬ IsOver outcome [] left written → Remains outcome back (written ++ own) → Remains outcome left written
  produced_last (of_all normal) written own back is more l = record {
    others = own ++ l.others;
    spell = splits.behind own back l.others [] is l.spell;
    are = l.are ∙ append_assoc written own l.others;
  }
  produced_last (of_first normal rest) [] own back is more f =
      let s = splits.one own back is in
      let w = front_was normal rest back own (one_has_bytes own s.one) f in
      subst (λ l. SpellsOne left l rest) (sym w.0) (subst (λ l. SpellsOne left own l) (sym w.1) s)
  produced_last (of_first normal rest) (o ∷ written) own back is more f = absurd (more (refl, λ e. cc))

module _ (Is : List ℕ → List ℕ → Type 0) (left : List ℕ) (splits : Splits Is left) (outcome : Outcome) (written : List ℕ) where
  consumed_inside : (outer : List OpenElement) (e : OpenElement) → IsOpenIn e (AreOpen outer (λ _. ⊤)) written → AreInside e (Comes outer (Remains outcome)) left written → Consumed Is (outer ++ e ∷ []) outcome written
  consumed_inside outer e b i =
      let s = splits.ahead i.others (end_of (extent_of e) i.back) (is_end (extent_of e) i.back) i.spell in
      let inside : e.contents ≤ length written = omega (arith, b.inside, ap length b.are, length-append (b.before ++ b.front) b.contents) in
      let front : e.contents - 1 ≤ length written = omega (arith, inside) in
      let same : drop e.contents written ++ i.others ≡ drop e.contents (written ++ s.own) ++ s.later =
      ap (λ x. drop e.contents written ++ x) s.are ∙ sym (append_assoc (drop e.contents written) s.own s.later) ∙ ap (λ x. x ++ s.later) (sym (drop-append-le e.contents written s.own inside)) in
      record {
        own = s.own;
        back = s.back;
        is = s.is;
        comes = comes_out outer e (Remains outcome) s.back (written ++ s.own) (record {
          others = s.later;
          back = i.back;
          size = i.size;
          spell = s.spell;
          after = i.after;
          is_size = subst (λ l. IsLength (length l) i.size) same i.is_size;
          later =
              subst (λ l. Comes outer (Remains outcome) i.back (l ++ (i.size ++ (drop e.contents (written ++ s.own) ++ s.later)))) (sym (take-append-le (e.contents - 1) written s.own front))
              (subst (λ l. Comes outer (Remains outcome) i.back (take (e.contents - 1) written ++ (i.size ++ l))) same i.later);
        });
      }

  pub consumed : (es : List OpenElement) → ¬ IsOver outcome es left written → AreOpen es (λ _. ⊤) written → Comes es (Remains outcome) left written → Consumed Is es outcome written
  consumed es = by (view es)
    where
      by : (es ≡ []) ⊎ IsSnoc es → ¬ IsOver outcome es left written → AreOpen es (λ _. ⊤) written → Comes es (Remains outcome) left written → Consumed Is es outcome written
      by (inl none) = subst (λ fs. ¬ IsOver outcome fs left written → AreOpen fs (λ _. ⊤) written → Comes fs (Remains outcome) left written → Consumed Is fs outcome written) (sym none) (λ more b c. consumed_last Is left splits outcome written more c)
      by (inr s) = subst (λ fs. ¬ IsOver outcome fs left written → AreOpen fs (λ _. ⊤) written → Comes fs (Remains outcome) left written → Consumed Is fs outcome written) (sym s.are)
          (λ more b c. consumed_inside s.outer s.innermost (open_in s.outer s.innermost (λ _. ⊤) written b) (comes_in s.outer s.innermost (Remains outcome) left written c))

  produced_inside : (outer : List OpenElement) (e : OpenElement) (own back : List ℕ) → Is own back → IsOpenIn e (AreOpen outer (λ _. ⊤)) written → AreInside e (Comes outer (Remains outcome)) back (written ++ own) → AreInside e (Comes outer (Remains outcome)) left written
  produced_inside outer e own back is b i =
      let inside : e.contents ≤ length written = omega (arith, b.inside, ap length b.are, length-append (b.before ++ b.front) b.contents) in
      let front : e.contents - 1 ≤ length written = omega (arith, inside) in
      let same : drop e.contents (written ++ own) ++ i.others ≡ drop e.contents written ++ (own ++ i.others) =
      ap (λ x. x ++ i.others) (drop-append-le e.contents written own inside) ∙ append_assoc (drop e.contents written) own i.others in
      record {
        others = own ++ i.others;
        back = i.back;
        size = i.size;
        spell = splits.behind own back i.others (end_of (extent_of e) i.back) is i.spell;
        after = i.after;
        is_size = subst (λ l. IsLength (length l) i.size) same i.is_size;
        later =
            subst (λ l. Comes outer (Remains outcome) i.back (take (e.contents - 1) written ++ (i.size ++ l))) same
            (subst (λ l. Comes outer (Remains outcome) i.back (l ++ (i.size ++ (drop e.contents (written ++ own) ++ i.others)))) (take-append-le (e.contents - 1) written own front) i.later);
      }

  pub produced : (es : List OpenElement) (own back : List ℕ) → Is own back → ¬ IsOver outcome es left written → AreOpen es (λ _. ⊤) written → Comes es (Remains outcome) back (written ++ own) → Comes es (Remains outcome) left written
  produced es own back is = by (view es)
    where
      by : (es ≡ []) ⊎ IsSnoc es → ¬ IsOver outcome es left written → AreOpen es (λ _. ⊤) written → Comes es (Remains outcome) back (written ++ own) → Comes es (Remains outcome) left written
      by (inl none) = subst (λ fs. ¬ IsOver outcome fs left written → AreOpen fs (λ _. ⊤) written → Comes fs (Remains outcome) back (written ++ own) → Comes fs (Remains outcome) left written) (sym none) (λ more b c. produced_last Is left splits outcome written own back is more c)
      by (inr s) = subst (λ fs. ¬ IsOver outcome fs left written → AreOpen fs (λ _. ⊤) written → Comes fs (Remains outcome) back (written ++ own) → Comes fs (Remains outcome) left written) (sym s.are)
          (λ more b c. comes_out s.outer s.innermost (Remains outcome) left written
          (produced_inside s.outer s.innermost own back is (open_in s.outer s.innermost (λ _. ⊤) written b) (comes_in s.outer s.innermost (Remains outcome) back (written ++ own) c)))

-- an element has the identifier with which it was begun
begun_own : (tag : Tag) (front contents own : List ℕ) (begun : IsBegun tag true front) (element : IsElement tag true contents own) → own ≡ begun.identifier ++ (element.size ++ contents)
begun_own tag front contents own begun element =
    element.are ∙ ap (λ l. l ++ (element.size ++ contents)) (one_identifier tag true element.identifier begun.identifier element.is_identifier begun.is_identifier)

-- an element that was begun is inside what is open
module _ (es : List OpenElement) (e : OpenElement) (contents written front : List ℕ) (tag : Tag) (begun : IsBegun tag true front) (inside : e.contents ≡ length (written ++ front)) where
  parted : written ++ front ≡ (written ++ begun.identifier) ++ begun.room ∷ []
  parted = ap (λ l. written ++ l) begun.are ∙ sym (append_assoc written begun.identifier (begun.room ∷ []))

  taken : take (e.contents - 1) (written ++ front) ≡ written ++ begun.identifier
  taken =
      let long : e.contents - 1 ≡ length (written ++ begun.identifier) = omega (arith, inside, ap length parted, length-append (written ++ begun.identifier) (begun.room ∷ [])) in
      ap (λ n. take n (written ++ front)) long ∙ ap (take (length (written ++ begun.identifier))) parted ∙ take-append_seam (written ++ begun.identifier) (begun.room ∷ [])

  dropped : drop e.contents (written ++ front) ≡ []
  dropped = ap (λ l. drop e.contents l) (sym (append-nil (written ++ front))) ∙ ap (λ n. drop n ((written ++ front) ++ [])) inside ∙ drop-append_seam (written ++ front) []

  pub goes_in : (outcome : Outcome) (own back : List ℕ) → IsClosing tag (extent_of e) contents own back → Comes es (Remains outcome) back (written ++ own) → Comes (es ++ e ∷ []) (Remains outcome) contents (written ++ front)
  goes_in outcome own back c comes =
      comes_out es e (Remains outcome) contents (written ++ front) (record {
        others = c.others;
        back = back;
        size = c.element.size;
        spell = c.spell;
        after = c.after;
        is_size = subst (λ l. IsLength (length (l ++ c.others)) c.element.size) (sym dropped) c.element.is_size;
        later =
            subst (λ l. Comes es (Remains outcome) back (l ++ (c.element.size ++ (drop e.contents (written ++ front) ++ c.others)))) (sym taken)
            (subst (λ l. Comes es (Remains outcome) back ((written ++ begun.identifier) ++ (c.element.size ++ (l ++ c.others)))) (sym dropped)
            (subst (λ l. Comes es (Remains outcome) back l)
            (ap (λ l. written ++ l) (begun_own tag front c.others own begun c.element) ∙ sym (append_assoc written begun.identifier (c.element.size ++ c.others))) comes));
      })

  pub comes_back : (outcome : Outcome) → Comes (es ++ e ∷ []) (Remains outcome) contents (written ++ front) → Consumed (IsClosing tag (extent_of e) contents) es outcome written
  comes_back outcome comes =
      let i = comes_in es e (Remains outcome) contents (written ++ front) comes in
      record {
        own = begun.identifier ++ (i.size ++ i.others);
        back = i.back;
        is = record {
          others = i.others;
          spell = i.spell;
          after = i.after;
          element = record {
            identifier = begun.identifier;
            size = i.size;
            is_identifier = begun.is_identifier;
            is_size = subst (λ l. IsLength (length (l ++ i.others)) i.size) dropped i.is_size;
            are = refl;
          };
        };
        comes =
            subst (λ l. Comes es (Remains outcome) i.back l) (append_assoc written begun.identifier (i.size ++ i.others))
            (subst (λ l. Comes es (Remains outcome) i.back ((written ++ begun.identifier) ++ (i.size ++ (l ++ i.others)))) dropped
            (subst (λ l. Comes es (Remains outcome) i.back (l ++ (i.size ++ (drop e.contents (written ++ front) ++ i.others)))) taken i.later));
      }

-- what follows an element that ends here
same_back : (x : Extent) (back other : List ℕ) → IsAfter x back → IsAfter x other → end_of x back ≡ end_of x other → back ≡ other
same_back (Definite after) back other a b e = sym a ∙ b
same_back Indefinite back other a b e = cc

-- an open element that ends
module _ (outer : List OpenElement) (e : OpenElement) (left written back own : List ℕ) (ends : left ≡ end_of (extent_of e) back) (after : IsAfter (extent_of e) back)
    (b : IsOpenIn e (AreOpen outer (λ _. ⊤)) written) (element : IsElement b.tag true b.contents own) where
  apart : written ≡ (b.before ++ b.begun.identifier) ++ b.begun.room ∷ b.contents
  apart = b.are ∙ ap (λ l. (b.before ++ l) ++ b.contents) b.begun.are ∙ ap (λ l. l ++ b.contents) (sym (append_assoc b.before b.begun.identifier (b.begun.room ∷ [])))
      ∙ append_assoc (b.before ++ b.begun.identifier) (b.begun.room ∷ []) b.contents

  taken_before : take (e.contents - 1) written ≡ b.before ++ b.begun.identifier
  taken_before =
      let long : e.contents - 1 ≡ length (b.before ++ b.begun.identifier) = omega (
        arith,
        b.inside,
        ap (λ l. length (b.before ++ l)) b.begun.are,
        length-append b.before (b.begun.identifier ++ b.begun.room ∷ []),
        length-append b.begun.identifier (b.begun.room ∷ []),
        length-append b.before b.begun.identifier,
      ) in
      ap (λ n. take n written) long ∙ ap (take (length (b.before ++ b.begun.identifier))) apart ∙ take-append_seam (b.before ++ b.begun.identifier) (b.begun.room ∷ b.contents)

  dropped_front : drop e.contents written ≡ b.contents
  dropped_front = ap (λ n. drop n written) b.inside ∙ ap (λ l. drop (length (b.before ++ b.front)) l) b.are ∙ drop-append_seam (b.before ++ b.front) b.contents

  whole : b.before ++ own ≡ take (e.contents - 1) written ++ (element.size ++ b.contents)
  whole =
      ap (λ l. b.before ++ l) (begun_own b.tag b.front b.contents own b.begun element) ∙ sym (append_assoc b.before b.begun.identifier (element.size ++ b.contents))
      ∙ ap (λ l. l ++ (element.size ++ b.contents)) (sym taken_before)

  pub ends_ahead : (outcome : Outcome) → Comes (outer ++ e ∷ []) (Remains outcome) left written → Comes outer (Remains outcome) back (b.before ++ own)
  ends_ahead outcome comes = by (comes_in outer e (Remains outcome) left written comes)
    where
      by : AreInside e (Comes outer (Remains outcome)) left written → Comes outer (Remains outcome) back (b.before ++ own)
      by i = at (none_or_more left i.others (end_of (extent_of e) i.back) i.spell)
        where
          at : ((left ≡ end_of (extent_of e) i.back) × (i.others ≡ [])) ⊎ Begins left → Comes outer (Remains outcome) back (b.before ++ own)
          at (inr b) = absurd (none_begins (end_of (extent_of e) back) (is_end (extent_of e) back) (subst Begins ends b))
          at (inl none) =
              let same : i.back ≡ back = sym (same_back (extent_of e) back i.back after i.after (sym ends ∙ none.0)) in
              let contents : drop e.contents written ++ i.others ≡ b.contents = ap (λ l. drop e.contents written ++ l) none.1 ∙ append-nil (drop e.contents written) ∙ dropped_front in
              let one : i.size ≡ element.size = one_length (length b.contents) i.size element.size (subst (λ l. IsLength (length l) i.size) contents i.is_size) element.is_size in
              subst (λ l. Comes outer (Remains outcome) l (b.before ++ own)) same
              (subst (λ l. Comes outer (Remains outcome) i.back l) (sym whole)
              (subst (λ l. Comes outer (Remains outcome) i.back (take (e.contents - 1) written ++ (l ++ b.contents))) one
              (subst (λ l. Comes outer (Remains outcome) i.back (take (e.contents - 1) written ++ (i.size ++ l))) contents i.later)))

  pub ends_behind : (outcome : Outcome) → Comes outer (Remains outcome) back (b.before ++ own) → Comes (outer ++ e ∷ []) (Remains outcome) left written
  ends_behind outcome comes = comes_out outer e (Remains outcome) left written (record {
    others = [];
    back = back;
    size = element.size;
    spell = subst (λ l. Spells l [] (end_of (extent_of e) back)) (sym ends) (nothing (end_of (extent_of e) back));
    after = after;
    is_size = subst (λ l. IsLength (length l) element.size) (sym dropped_front ∙ sym (append-nil (drop e.contents written))) element.is_size;
    later =
        subst (λ l. Comes outer (Remains outcome) back (take (e.contents - 1) written ++ (element.size ++ l))) (sym dropped_front ∙ sym (append-nil (drop e.contents written)))
        (subst (λ l. Comes outer (Remains outcome) back l) whole comes);
  })

-- where nothing ends and the walk goes on, an element begins, if the walk has an outcome
begins_last : (outcome : Outcome) (left written : List ℕ) → ¬ IsOver outcome [] left written → Remains outcome left written → Begins left
begins_last (of_all normal) left written more l = by (none_or_more left l.others [] l.spell)
  where
    by : ((left ≡ []) × (l.others ≡ [])) ⊎ Begins left → Begins left
    by (inl ended) = absurd (more (refl, ended.0))
    by (inr b) = b
begins_last (of_first normal rest) left [] more s = by (none_or_more left normal rest s.spells)
  where
    by : ((left ≡ rest) × (normal ≡ [])) ⊎ Begins left → Begins left
    by (inl ended) = absurd (one_has_bytes normal s.one ended.1)
    by (inr b) = b
begins_last (of_first normal rest) left (o ∷ written) more s = absurd (more (refl, λ e. cc))

module _ (es : List OpenElement) (left written : List ℕ) (outcome : Outcome) (more : ¬ IsOver outcome es left written)
    (none : (outer : List OpenElement) (e : OpenElement) (back : List ℕ) → es ≡ outer ++ e ∷ [] → left ≡ end_of (extent_of e) back → IsAfter (extent_of e) back → ⊥) where
  pub begins : Comes es (Remains outcome) left written → Begins left
  begins = by es more none (view es)
    where
      inside : (outer : List OpenElement) (e : OpenElement) → ((back : List ℕ) → left ≡ end_of (extent_of e) back → IsAfter (extent_of e) back → ⊥) → AreInside e (Comes outer (Remains outcome)) left written → Begins left
      inside outer e not i = at (none_or_more left i.others (end_of (extent_of e) i.back) i.spell)
        where
          at : ((left ≡ end_of (extent_of e) i.back) × (i.others ≡ [])) ⊎ Begins left → Begins left
          at (inl ended) = absurd (not i.back ended.0 i.after)
          at (inr b) = b

      by : (fs : List OpenElement) → ¬ IsOver outcome fs left written → ((outer : List OpenElement) (e : OpenElement) (back : List ℕ) → fs ≡ outer ++ e ∷ [] → left ≡ end_of (extent_of e) back → IsAfter (extent_of e) back → ⊥) → (fs ≡ []) ⊎ IsSnoc fs →
          Comes fs (Remains outcome) left written → Begins left
      by fs more none (inl empty) comes =
          begins_last outcome left written (subst (λ gs. ¬ IsOver outcome gs left written) empty more) (subst (λ gs. Comes gs (Remains outcome) left written) empty comes)
      by fs more none (inr s) comes = inside s.outer s.innermost (λ back. none s.outer s.innermost back s.are)
          (comes_in s.outer s.innermost (Remains outcome) left written (subst (λ gs. Comes gs (Remains outcome) left written) s.are comes))

-- where nothing is left, these bytes have been written
pub at_end : (normal left written : List ℕ) → left ≡ [] → AreLast normal left written → normal ≡ written
at_end normal left written none l = by (none_or_more left l.others [] l.spell)
  where
    by : ((left ≡ []) × (l.others ≡ [])) ⊎ Begins left → normal ≡ written
    by (inl ended) = l.are ∙ ap (λ x. written ++ x) ended.1 ∙ append-nil written
    by (inr b) = absurd (none_begins [] nothing_left (subst Begins none b))
