-- Where open elements were begun, by segments and in all that was written.
use Rattle.std.proofs.Common.{◌≡◌, ◌⊎◌, inl, inr, ℕ, suc, true, List, [], ◌∷◌, ◌++◌, ◌-◌, append-nil, append_assoc, length, length-append, refl, ap, sym, subst, ◌∙◌, arith}
use Rattle.std.specs.Bool.{⊤}
use Rattle.asn1_ber_items.specs.Segments.{IsExtended, joined, octets_of_each, segments_of}
use Rattle.asn1_ber_items.specs.declared.segments.Segments.{Segments}
use Rattle.asn1_ber_items.specs.Walks.{AreBegun, IsBegunIn}
use Rattle.asn1_ber_items.specs.declared.open_element.OpenElement.{OpenElement}
use Rattle.asn1_ber_items.proofs.Joined.{joined-last, joined-more, joined_at}
use Rattle.asn1_ber_items.proofs.Snoc.{IsSnoc, same_last, view}
use Rattle.asn1_ber_items.proofs.Walking.{AreOpen, IsOpenIn}
use Rattle.asn1_der_items.specs.Elements.{IsBegun, IsElement}
use Rattle.asn1_der_items.specs.Lengths.{IsLength}
use Rattle.asn1_tags.specs.declared.tags.Tag.{Tag}

-- what was begun in segments was begun in all that was written
abbrev pub opened : (e : OpenElement) (Before : List (List ℕ) → Type 0) (Outer : List ℕ → Type 0) → ((ss : List (List ℕ)) → Before ss → Outer (joined ss)) → (segments : List (List ℕ)) →
    IsBegunIn e Before segments → IsOpenIn e Outer (joined segments)
opened e Before Outer outer segments b = record {
  before = joined b.before ++ b.outside;
  front = b.front;
  contents = b.rest ++ joined b.after;
  tag = b.tag;
  begun = b.begun;
  are = ap joined b.are ∙ joined_at b.before b.after b.outside b.front b.rest;
  inside = b.inside;
  outer = subst Outer (joined-last b.before b.outside) (outer (b.before ++ b.outside ∷ []) b.outer);
}

opened_with : (es : List OpenElement) (Before : List (List ℕ) → Type 0) (Outer : List ℕ → Type 0) → ((ss : List (List ℕ)) → Before ss → Outer (joined ss)) → (segments : List (List ℕ)) →
    AreBegun es Before segments → AreOpen es Outer (joined segments)
opened_with [] Before Outer outer segments b = outer segments b
opened_with (e ∷ es) Before Outer outer segments b = opened_with es (IsBegunIn e Before) (IsOpenIn e Outer) (opened e Before Outer outer) segments b

pub all_opened : (es : List OpenElement) (segments : List (List ℕ)) → AreBegun es (λ _. ⊤) segments → AreOpen es (λ _. ⊤) (joined segments)
all_opened es segments b = opened_with es (λ _. ⊤) (λ _. ⊤) (λ _ _. tt) segments b

-- the last element
pub begun_in : (es : List OpenElement) (e : OpenElement) (Before : List (List ℕ) → Type 0) (segments : List (List ℕ)) → AreBegun (es ++ e ∷ []) Before segments → IsBegunIn e (AreBegun es Before) segments
begun_in [] e Before segments b = b
begun_in (f ∷ es) e Before segments b = begun_in es e (IsBegunIn f Before) segments b

begun_out : (es : List OpenElement) (e : OpenElement) (Before : List (List ℕ) → Type 0) (segments : List (List ℕ)) → IsBegunIn e (AreBegun es Before) segments → AreBegun (es ++ e ∷ []) Before segments
begun_out [] e Before segments b = b
begun_out (f ∷ es) e Before segments b = begun_out es e (IsBegunIn f Before) segments b

-- open elements stay so where more is written
abbrev Grows : (List (List ℕ) → Type 0) → Type 0
Grows Before = (first more : List (List ℕ)) (last own : List ℕ) → Before (first ++ last ∷ []) → Before (first ++ (last ++ own) ∷ more)

grows_in : (e : OpenElement) (Before : List (List ℕ) → Type 0) → Grows (IsBegunIn e Before)
grows_in e Before first more last own b = by b.after b.are (view b.after)
  where
    moved : (rest : List ℕ) (after : List (List ℕ)) → first ++ (last ++ own) ∷ more ≡ b.before ++ ((b.outside ++ b.front) ++ rest) ∷ after → IsBegunIn e Before (first ++ (last ++ own) ∷ more)
    moved rest after are = record {
      before = b.before;
      outside = b.outside;
      front = b.front;
      rest = rest;
      after = after;
      tag = b.tag;
      begun = b.begun;
      are = are;
      segment = b.segment;
      index = b.index;
      inside = b.inside;
      outer = b.outer;
    }

    by : (after : List (List ℕ)) → first ++ last ∷ [] ≡ b.before ++ ((b.outside ++ b.front) ++ b.rest) ∷ after → (after ≡ []) ⊎ IsSnoc after → IsBegunIn e Before (first ++ (last ++ own) ∷ more)
    by after are (inl none) =
        let same = same_last first b.before last ((b.outside ++ b.front) ++ b.rest) (are ∙ ap (λ l. b.before ++ ((b.outside ++ b.front) ++ b.rest) ∷ l) none) in
        moved (b.rest ++ own) more
        (ap (λ l. l ++ (last ++ own) ∷ more) same.front ∙ ap (λ l. b.before ++ (l ++ own) ∷ more) same.last ∙ ap (λ l. b.before ++ l ∷ more) (append_assoc (b.outside ++ b.front) b.rest own))
    by after are (inr s) =
        let own_segment : List ℕ = (b.outside ++ b.front) ++ b.rest in
        let same = same_last first (b.before ++ own_segment ∷ s.outer) last s.innermost
        (are ∙ ap (λ l. b.before ++ own_segment ∷ l) s.are ∙ sym (append_assoc b.before (own_segment ∷ s.outer) (s.innermost ∷ []))) in
        moved b.rest (s.outer ++ (last ++ own) ∷ more)
        (ap (λ l. l ++ (last ++ own) ∷ more) same.front ∙ append_assoc b.before (own_segment ∷ s.outer) ((last ++ own) ∷ more))

grow_with : (es : List OpenElement) (Before : List (List ℕ) → Type 0) → Grows Before → Grows (AreBegun es Before)
grow_with [] Before grows first more last own b = grows first more last own b
grow_with (e ∷ es) Before grows first more last own b = grow_with es (IsBegunIn e Before) (grows_in e Before) first more last own b

pub grow : (es : List OpenElement) (first more : List (List ℕ)) (last own : List ℕ) → AreBegun es (λ _. ⊤) (first ++ last ∷ []) → AreBegun es (λ _. ⊤) (first ++ (last ++ own) ∷ more)
grow es first more last own b = grow_with es (λ _. ⊤) (λ _ _ _ _ _. tt) first more last own b

-- so where segments without octets follow
module _ (old new : Segments) (x : IsExtended old new) where
  no_more : octets_of_each old.full.items ++ (old.last.items ++ []) ∷ x.after ≡ segments_of new
  no_more = ap (λ l. octets_of_each old.full.items ++ l ∷ x.after) (append-nil old.last.items) ∙ sym x.are

  pub extended : (es : List OpenElement) → AreBegun es (λ _. ⊤) (segments_of old) → AreBegun es (λ _. ⊤) (segments_of new)
  extended es b = subst (AreBegun es (λ _. ⊤)) no_more (grow es (octets_of_each old.full.items) x.after old.last.items [] b)

  pub extended_joined : joined (segments_of new) ≡ joined (segments_of old)
  extended_joined =
      ap joined (sym no_more) ∙ joined-more (octets_of_each old.full.items) x.after old.last.items [] x.none_after ∙ append-nil (joined (segments_of old))

-- an element that was begun is inside what is open
pub begun_too : (es : List OpenElement) (e : OpenElement) (first more : List (List ℕ)) (last front : List ℕ) (tag : Tag) → IsBegun tag true front → e.segment ≡ length first → suc e.index ≡ length (last ++ front) →
    e.contents ≡ length ((joined first ++ last) ++ front) → AreBegun es (λ _. ⊤) (first ++ last ∷ []) → AreBegun (es ++ e ∷ []) (λ _. ⊤) (first ++ (last ++ front) ∷ more)
begun_too es e first more last front tag begun segment index inside b = begun_out es e (λ _. ⊤) (first ++ (last ++ front) ∷ more) (record {
  before = first;
  outside = last;
  front = front;
  rest = [];
  after = more;
  tag = tag;
  begun = begun;
  are = ap (λ l. first ++ l ∷ more) (sym (append-nil (last ++ front)));
  segment = segment;
  index = index;
  inside = inside;
  outer = b;
})

-- An element that was begun ends: its length is in the place that was left for it.
module _ (outer : List OpenElement) (e : OpenElement) (segments : List (List ℕ)) (b : IsBegunIn e (AreBegun outer (λ _. ⊤)) segments) where
  -- the octets before this place, and the octet there
  pub room_last : segments ≡ b.before ++ (((b.outside ++ b.begun.identifier) ++ b.begun.room ∷ []) ++ b.rest) ∷ b.after
  room_last = b.are ∙ ap (λ l. b.before ++ ((b.outside ++ l) ++ b.rest) ∷ b.after) b.begun.are
      ∙ ap (λ l. b.before ++ (l ++ b.rest) ∷ b.after) (sym (append_assoc b.outside b.begun.identifier (b.begun.room ∷ [])))

  pub room_at : e.index ≡ length (b.outside ++ b.begun.identifier)
  room_at = omega (arith, b.index, ap (λ l. length (b.outside ++ l)) b.begun.are, length-append b.outside (b.begun.identifier ++ b.begun.room ∷ []), length-append b.begun.identifier (b.begun.room ∷ []), length-append b.outside b.begun.identifier)

  pub size_is : length (joined segments) - e.contents ≡ length (b.rest ++ joined b.after)
  size_is = omega (arith, b.inside, ap length (ap joined b.are ∙ joined_at b.before b.after b.outside b.front b.rest), length-append ((joined b.before ++ b.outside) ++ b.front) (b.rest ++ joined b.after))

  module _ (octets : List ℕ) (new : List (List ℕ)) (is_length : IsLength (length (b.rest ++ joined b.after)) octets) (are : new ≡ b.before ++ (((b.outside ++ b.begun.identifier) ++ octets) ++ b.rest) ∷ b.after) where
    pub ended_is : IsElement b.tag true (b.rest ++ joined b.after) (b.begun.identifier ++ (octets ++ (b.rest ++ joined b.after)))
    ended_is = record { identifier = b.begun.identifier; size = octets; is_identifier = b.begun.is_identifier; is_size = is_length; are = refl }

    pub ended_joined : joined new ≡ (joined b.before ++ b.outside) ++ (b.begun.identifier ++ (octets ++ (b.rest ++ joined b.after)))
    ended_joined = ap joined are ∙ ap (λ l. joined (b.before ++ (l ++ b.rest) ∷ b.after)) (append_assoc b.outside b.begun.identifier octets)
        ∙ joined_at b.before b.after b.outside (b.begun.identifier ++ octets) b.rest
        ∙ append_assoc (joined b.before ++ b.outside) (b.begun.identifier ++ octets) (b.rest ++ joined b.after)
        ∙ ap (λ l. (joined b.before ++ b.outside) ++ l) (append_assoc b.begun.identifier octets (b.rest ++ joined b.after))

    pub ended_begun : AreBegun outer (λ _. ⊤) new
    ended_begun = subst (AreBegun outer (λ _. ⊤))
        (ap (λ l. b.before ++ l ∷ b.after) (sym (append_assoc b.outside (b.begun.identifier ++ octets) b.rest) ∙ ap (λ l. l ++ b.rest) (sym (append_assoc b.outside b.begun.identifier octets))) ∙ sym are)
        (grow outer b.before b.after b.outside ((b.begun.identifier ++ octets) ++ b.rest) b.outer)
