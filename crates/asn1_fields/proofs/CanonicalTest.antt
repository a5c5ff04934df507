-- The test of the canonical order, and what it decides.
use Rattle.std.proofs.Common.{◌≡◌, inl, inr, ℕ, zero, suc, ◌+◌, ◌<◌, nat_lt, Bool, true, false, ◌&&◌, List, [], ◌∷◌, length, map, get_or, add-one, refl, sym, ap, ◌∙◌, subst, arith}
use Rattle.std.specs.List.{AllAdjacentBelow, IsAllAdjacentAnswer, slice_get}
use Rattle.std.specs.Ordering.{is_le}
use Rattle.std.proofs.lemmas.Bool.{and_from, and_parts, and_right}
use Rattle.std.proofs.lemmas.Bool.Decides.{nat_tests}
use Rattle.std.proofs.lemmas.Grind.{common_steps}
use Rattle.std.proofs.lemmas.Option.{none-some, same_Some}
use Rattle.std.proofs.lemmas.Simd.{map-map}
use Rattle.asn1_tags.specs.Tags.{IsAtMost, class_number, tag_cmp}
use Rattle.asn1_tags.specs.declared.tags.Tag.{Tag}
use Rattle.asn1_fields.specs.CanonicalOrder.{IsCanonical, canonical, in_order, smallest_tag}
use Rattle.asn1_fields.specs.FieldViews.{Component, component_of, components, view_of}
use Rattle.asn1_fields.specs.declared.field.Field.{Field}

-- the order of tags, and what is at most what
IsAtMost-from_le : (s t : Tag) → is_le (tag_cmp s t) ≡ true → IsAtMost s t
IsAtMost-from_le s t h = by_class (nat_lt (class_number s.class) (class_number t.class)) refl
  where
    by_class : (b : Bool) → nat_lt (class_number s.class) (class_number t.class) ≡ b → IsAtMost s t
    by_class true e = inl (grind (arith, nat_tests, common_steps))
    by_class false e = inr (grind (arith, nat_tests, common_steps), grind (arith, nat_tests, common_steps))

le-from_IsAtMost : (s t : Tag) → IsAtMost s t → is_le (tag_cmp s t) ≡ true
le-from_IsAtMost s t (inl lt) = grind (arith, nat_tests, common_steps)
le-from_IsAtMost s t (inr le) = grind (arith, nat_tests, common_steps)

-- the test answers true for what is canonical
pub IsCanonical-from_test : (cs : List Component) → canonical cs ≡ true → IsCanonical cs
IsCanonical-from_test [] h k c d e f = absurd (none-some c e)
IsCanonical-from_test (a ∷ []) h k c d e f = absurd (none-some d (sym (ap (slice_get (a ∷ [])) (add-one k)) ∙ f))
IsCanonical-from_test (a ∷ (b ∷ cs)) h zero c d e f =
    subst (λ x. IsAtMost (smallest_tag x) (smallest_tag d)) (same_Some a c e)
    (subst (λ x. IsAtMost (smallest_tag a) (smallest_tag x)) (same_Some b d f)
    (IsAtMost-from_le (smallest_tag a) (smallest_tag b) (and_parts (in_order a b) (canonical (b ∷ cs)) h).0))
IsCanonical-from_test (a ∷ (b ∷ cs)) h (suc k) c d e f =
    IsCanonical-from_test (b ∷ cs) (and_parts (in_order a b) (canonical (b ∷ cs)) h).1 k c d e
    (ap (slice_get (b ∷ cs)) (add-one k) ∙ (sym (ap (slice_get (a ∷ (b ∷ cs))) (add-one (suc k))) ∙ f))

-- and for nothing else
pub test-from_IsCanonical : (cs : List Component) → IsCanonical cs → canonical cs ≡ true
test-from_IsCanonical [] h = refl
test-from_IsCanonical (a ∷ []) h = refl
test-from_IsCanonical (a ∷ (b ∷ cs)) h =
    and_from (in_order a b) (canonical (b ∷ cs)) (le-from_IsAtMost (smallest_tag a) (smallest_tag b) (h 0 a b refl refl))
    (test-from_IsCanonical (b ∷ cs)
    (λ k c d e f. h (suc k) c d e (ap (slice_get (a ∷ (b ∷ cs))) (add-one (suc k)) ∙ (sym (ap (slice_get (b ∷ cs)) (add-one k)) ∙ f))))

-- Values of any kind, each seen as a component.
module _ {X : Type 0} (seen : X → Component) where
  -- neighbours that are all in order
  all_in_order : (xs : List X) → AllAdjacentBelow (λ x y. true ≡ in_order (seen x) (seen y)) xs (length xs) → canonical (map seen xs) ≡ true
  all_in_order [] h = refl
  all_in_order (x ∷ []) h = refl
  all_in_order (x ∷ (y ∷ xs)) h =
      and_from (in_order (seen x) (seen y)) (canonical (map seen (y ∷ xs))) (sym (h 0 x (omega arith)))
      (all_in_order (y ∷ xs)
      (λ k d lt. subst (λ z. true ≡ in_order (seen (get_or (y ∷ xs) k d)) (seen z)) (ap (λ n. get_or (x ∷ (y ∷ xs)) n d) (add-one (suc k)) ∙ sym (ap (λ n. get_or (y ∷ xs) n d) (add-one k)))
      (h (suc k) d (omega arith))))

  -- neighbours of which some are not
  some_not_in_order : (xs : List X) (k : ℕ) → k + 1 < length xs → ((d : X) → false ≡ in_order (seen (get_or xs k d)) (seen (get_or xs (k + 1) d))) →
      canonical (map seen xs) ≡ false
  some_not_in_order [] k lt h = absurd (omega arith)
  some_not_in_order (x ∷ []) k lt h = absurd (omega arith)
  some_not_in_order (x ∷ (y ∷ xs)) zero lt h = ap (λ b. b && canonical (map seen (y ∷ xs))) (sym (h x))
  some_not_in_order (x ∷ (y ∷ xs)) (suc k) lt h =
      and_right (in_order (seen x) (seen y)) (canonical (map seen (y ∷ xs)))
      (some_not_in_order (y ∷ xs) k (omega arith)
      (λ d. subst (λ z. false ≡ in_order (seen (get_or (y ∷ xs) k d)) (seen z)) (ap (λ n. get_or (x ∷ (y ∷ xs)) n d) (add-one (suc k)) ∙ sym (ap (λ n. get_or (y ∷ xs) n d) (add-one k))) (h d)))

  -- the test passes if and only if all neighbours are in order
  pub canonical-seen : (xs : List X) (answer : Bool) → IsAllAdjacentAnswer (λ x y b. b ≡ in_order (seen x) (seen y)) xs answer → answer ≡ canonical (map seen xs)
  canonical-seen xs true h = sym (all_in_order xs h)
  canonical-seen xs false h = sym (some_not_in_order xs h.0 h.1 h.2)

-- whether two fields are in order
abbrev pub fields_in_order : Field → Field → Bool
fields_in_order f g = in_order (component_of (view_of f)) (component_of (view_of g))

-- the same for fields
pub canonical-is : (fs : List Field) (answer : Bool) → IsAllAdjacentAnswer (λ f g b. b ≡ fields_in_order f g) fs answer → answer ≡ canonical (components fs)
canonical-is fs answer h = canonical-seen (λ f. component_of (view_of f)) fs answer h ∙ ap canonical (sym (map-map component_of view_of fs))
