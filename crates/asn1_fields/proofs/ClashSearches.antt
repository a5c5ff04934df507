-- The searches for clashes, step by step.
use Rattle.std.proofs.Common.{◌≡◌, ℕ, suc, ◌+◌, ◌-◌, ◌<◌, ◌≤◌, Bool, true, false, cond, not, Option, Some, None, List, [], ◌∷◌, length, get_or, take, drop, refl, sym, ap, ◌∙◌, arith}
use Rattle.std.specs.List.{position, position_or_len}
use Rattle.std.specs.Option.{option_map, option_or}
use Rattle.std.proofs.lemmas.List.{drop_more, drop_all, take_all, take_rest}
use Rattle.std.proofs.lemmas.Bool.Decides.{nat_tests}
use Rattle.std.proofs.lemmas.Grind.{common_steps}
use Rattle.asn1_tags.specs.Trees.{shape}
use Rattle.asn1_tags.proofs.ListPositions.{position-map}
use Rattle.asn1_fields.specs.DistinctTags.{first_clash, rivals, share_tag, up_to_required}
use Rattle.asn1_fields.specs.FieldViews.{Component, component_of, components, views, view_of, may_be_absent}
use Rattle.asn1_fields.specs.declared.field.Field.{Field}

-- the search for the first field that is always there
abbrev pub is_required : Field → Bool
is_required f = not (may_be_absent f.presence)

up_to_required-take : (fs : List Field) → up_to_required (components fs) ≡ components (take (position_or_len is_required fs + 1) fs)
up_to_required-take [] = sym (ap components (take_all (position_or_len is_required [] + 1) [] (omega arith)))
up_to_required-take (f ∷ fs) = by_test (up_to_required-take fs) (may_be_absent f.presence)
  where
    c : Component
    c = component_of (view_of f)

    n : ℕ
    n = position_or_len is_required fs

    by_test : up_to_required (components fs) ≡ components (take (n + 1) fs) → (b : Bool) →
        c ∷ cond b (up_to_required (components fs)) [] ≡ components (take (cond (not (not b)) (1 + n) 0 + 1) (f ∷ fs))
    by_test rest false = refl
    by_test rest true =
        let e : 1 + n + 1 ≡ suc (n + 1) = omega arith in
        ap (λ cs. c ∷ cs) rest ∙ sym (ap (λ m. components (take m (f ∷ fs))) e)

-- the rivals of a field that may be absent
pub rivals-some : (f : Field) (fs : List Field) (k : ℕ) → may_be_absent f.presence ≡ true → position is_required fs ≡ Some k →
    components (take (k + 1) fs) ≡ rivals (component_of (view_of f)) (components fs)
rivals-some f fs k absent e =
    let same : position_or_len is_required fs ≡ k = grind (arith, nat_tests, common_steps) in
    ap (λ m. components (take (m + 1) fs)) (sym same)
    ∙ (sym (up_to_required-take fs) ∙ ap (λ b. cond b (up_to_required (components fs)) []) (sym absent))

pub rivals-none : (f : Field) (fs : List Field) → may_be_absent f.presence ≡ true → position is_required fs ≡ None →
    components fs ≡ rivals (component_of (view_of f)) (components fs)
rivals-none f fs absent e =
    let past : length fs ≤ position_or_len is_required fs = grind (arith, nat_tests, common_steps) in
    ap components (sym (take_all (position_or_len is_required fs + 1) fs (omega arith)))
    ∙ (sym (up_to_required-take fs) ∙ ap (λ b. cond b (up_to_required (components fs)) []) (sym absent))

-- a pair, that many indices further on
abbrev pub shifted : ℕ → Option (ℕ × ℕ) → Option (ℕ × ℕ)
shifted n o = option_map (λ p. (p.0 + n, p.1 + n)) o

pub shifted-zero : (o : Option (ℕ × ℕ)) → o ≡ shifted 0 o
shifted-zero None = refl
shifted-zero (Some p) =
    let first : p.0 ≡ p.0 + 0 = omega arith in
    let second : p.1 ≡ p.1 + 0 = omega arith in
    λ i. Some (first i, second i)

pub shifted-shifted : (m n : ℕ) (o : Option (ℕ × ℕ)) → shifted m (shifted n o) ≡ shifted (m + n) o
shifted-shifted m n None = refl
shifted-shifted m n (Some p) =
    let first : p.0 + n + m ≡ p.0 + (m + n) = omega arith in
    let second : p.1 + n + m ≡ p.1 + (m + n) = omega arith in
    λ i. Some (first i, second i)

-- the search among all fields continues from an index on
abbrev pub IsLeft : (Component → List Component → List Component) → List Field → ℕ → Type 0
IsLeft others fs i = first_clash others (components fs) ≡ shifted i (first_clash others (components (drop i fs)))

module _ (others : Component → List Component → List Component) (fs : List Field) where
  pub search_ends : (i : ℕ) → length fs ≤ i → IsLeft others fs i → first_clash others (components fs) ≡ None
  search_ends i past left = left ∙ ap (λ gs. shifted i (first_clash others (components gs))) (drop_all i fs past)

  -- the pair that is found at an index, or after it
  at_index : ℕ → Option ℕ → Option (ℕ × ℕ)
  at_index i o = option_or (option_map (λ j. (0, j + 1)) o) (shifted 1 (first_clash others (components (drop (i + 1) fs))))

  -- the step at the field f, whose rivals are rs
  step : (i : ℕ) (d : Field) (rs : List Field) (o : Option ℕ) → i < length fs →
      components rs ≡ others (component_of (view_of (get_or fs i d))) (components (take (length fs - (i + 1)) (drop (i + 1) fs))) →
      position (λ r. share_tag (shape (get_or fs i d).tag_tree) (shape r.tag_tree)) rs ≡ o →
      first_clash others (components (drop i fs)) ≡ at_index i o
  unfolding at_index
  step i d rs o lt rest e =
      let c = component_of (view_of (get_or fs i d)) in
      let test : Component → Bool = λ r. share_tag c.tree r.tree in
      ap (λ gs. first_clash others (components gs)) (drop_more fs i d lt)
      ∙ ap (at_index i)
      (ap (λ gs. position test (others c (components gs))) (sym (take_rest fs (i + 1)))
      ∙ (ap (position test) (sym rest)
      ∙ (position-map test component_of (views rs) ∙ (position-map (λ r. test (component_of r)) view_of rs ∙ e))))

  pub search_stops : (i b : ℕ) (d : Field) (rs : List Field) → i < length fs → IsLeft others fs i →
      components rs ≡ others (component_of (view_of (get_or fs i d))) (components (take (length fs - (i + 1)) (drop (i + 1) fs))) →
      position (λ r. share_tag (shape (get_or fs i d).tag_tree) (shape r.tag_tree)) rs ≡ Some b →
      first_clash others (components fs) ≡ Some (i, i + 1 + b)
  unfolding at_index
  search_stops i b d rs lt left rest e =
      let first : 0 + i ≡ i = omega arith in
      let second : b + 1 + i ≡ i + 1 + b = omega arith in
      left ∙ (ap (shifted i) (step i d rs (Some b) lt rest e) ∙ λ k. Some (first k, second k))

  pub search_goes_on : (i : ℕ) (d : Field) (rs : List Field) → i < length fs → IsLeft others fs i →
      components rs ≡ others (component_of (view_of (get_or fs i d))) (components (take (length fs - (i + 1)) (drop (i + 1) fs))) →
      position (λ r. share_tag (shape (get_or fs i d).tag_tree) (shape r.tag_tree)) rs ≡ None →
      IsLeft others fs (i + 1)
  unfolding at_index
  search_goes_on i d rs lt left rest e =
      left ∙ (ap (shifted i) (step i d rs None lt rest e) ∙ shifted-shifted i 1 (first_clash others (components (drop (i + 1) fs))))
