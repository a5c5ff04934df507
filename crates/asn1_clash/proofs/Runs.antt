-- The runs of components that may be absent, each with the component right after it.
use Rattle.std.proofs.Common.{◌≡◌, ℕ, zero, suc, ◌+◌, ◌<◌, ◌≤◌, ◌==◌, Bool, true, false, cond, not, nat_lt, Option, Some, None, List, [], ◌∷◌, length, take, drop, option_map, refl, sym, ap, ◌∙◌, subst, arith}
use Rattle.std.specs.Prelude.{position}
use Rattle.std.specs.List.{position_or_len}
use Rattle.std.specs.Option.{option_or}
use Rattle.std.proofs.lemmas.Bool.{false≢true}
use Rattle.std.proofs.lemmas.Bool.Decides.{nat_tests}
use Rattle.std.proofs.lemmas.List.{length-map, take-map, drop-map}
use Rattle.std.proofs.lemmas.Option.{slice_get_within}
use Rattle.asn1_fields.specs.FieldViews.{Component, may_be_absent}
use Rattle.asn1_fields.specs.DistinctTags.{sequence_clash, set_clash, share_tag, up_to_required, IsLeast, IsSetClash}
use Rattle.asn1_fields.proofs.Clashes.{set_clash-is}
use Rattle.asn1_fields.proofs.ClashSearches.{shifted, shifted-shifted}
use Rattle.asn1_clash.specs.declared.flat_component.FlatComponent.{FlatComponent}
use Rattle.asn1_clash.specs.Views.{component_view, components_view}

or_assoc : (a b c : Option (ℕ × ℕ)) → option_or a (option_or b c) ≡ option_or (option_or a b) c
or_assoc None b c = refl
or_assoc (Some p) b c = refl

shifted-or : (a b : Option (ℕ × ℕ)) → shifted 1 (option_or a b) ≡ option_or (shifted 1 a) (shifted 1 b)
shifted-or None b = refl
shifted-or (Some p) b = refl

-- the first clash of a SEQUENCE is that of its first run as a SET, or else that of what follows the run
pub clash_by_runs : (cs : List Component) →
    sequence_clash cs ≡ option_or (set_clash (up_to_required cs)) (shifted (length (up_to_required cs)) (sequence_clash (drop (length (up_to_required cs)) cs)))
clash_by_runs [] = refl
clash_by_runs (c ∷ cs) = by_test (may_be_absent c.presence) refl (clash_by_runs cs)
  where
    here : List Component → Option (ℕ × ℕ)
    here others = option_map (λ j. (0, j + 1)) (position (λ d. share_tag c.tree d.tree) others)

    by_test : (b : Bool) → may_be_absent c.presence ≡ b →
        sequence_clash cs ≡ option_or (set_clash (up_to_required cs)) (shifted (length (up_to_required cs)) (sequence_clash (drop (length (up_to_required cs)) cs))) →
        option_or (here (cond b (up_to_required cs) [])) (shifted 1 (sequence_clash cs))
        ≡ option_or (set_clash (c ∷ cond b (up_to_required cs) []))
        (shifted (length (c ∷ cond b (up_to_required cs) [])) (sequence_clash (drop (length (c ∷ cond b (up_to_required cs) [])) (c ∷ cs))))
    by_test true absent rest =
        let run = up_to_required cs in
        let n = length run in
        let later = sequence_clash (drop n cs) in
        let longer : 1 + n ≡ suc n = omega arith in
        ap (λ r. option_or (here run) (shifted 1 r)) rest
        ∙ (ap (option_or (here run)) (shifted-or (set_clash run) (shifted n later))
        ∙ (or_assoc (here run) (shifted 1 (set_clash run)) (shifted 1 (shifted n later))
        ∙ ap (option_or (set_clash (c ∷ run))) (shifted-shifted 1 n later ∙ ap (λ k. shifted k later) longer)))
    by_test false there rest = refl

-- the components up to the first that must be there come first
pub up_to_required-take : (cs : List Component) → take (length (up_to_required cs)) cs ≡ up_to_required cs
up_to_required-take [] = refl
up_to_required-take (c ∷ cs) = by_test (may_be_absent c.presence) (up_to_required-take cs)
  where
    by_test : (b : Bool) → take (length (up_to_required cs)) cs ≡ up_to_required cs →
        take (length (c ∷ cond b (up_to_required cs) [])) (c ∷ cs) ≡ c ∷ cond b (up_to_required cs) []
    by_test true rest = ap (λ ds. c ∷ ds) rest
    by_test false rest = refl

-- how many these are
pub length-run : (fs : List FlatComponent) →
    length (up_to_required (components_view fs))
    ≡ cond (nat_lt (position_or_len (λ f. not (may_be_absent f.presence)) fs) (length fs)) (position_or_len (λ f. not (may_be_absent f.presence)) fs + 1) (length fs)
length-run [] = refl
length-run (f ∷ fs) = by_test (may_be_absent f.presence) (length-run fs)
  where
    required : FlatComponent → Bool
    required g = not (may_be_absent g.presence)

    by_test : (b : Bool) →
        length (up_to_required (components_view fs))
        ≡ cond (nat_lt (position_or_len (λ g. not (may_be_absent g.presence)) fs) (length fs)) (position_or_len (λ g. not (may_be_absent g.presence)) fs + 1) (length fs) →
        length (component_view f ∷ cond b (up_to_required (components_view fs)) [])
        ≡ cond (nat_lt (cond (not (not b)) (1 + position_or_len (λ g. not (may_be_absent g.presence)) fs) 0) (length (f ∷ fs)))
        (cond (not (not b)) (1 + position_or_len (λ g. not (may_be_absent g.presence)) fs) 0 + 1)
        (length (f ∷ fs))
    by_test true rest = grind (arith, nat_tests)
    by_test false rest = grind (arith, nat_tests)

pub run_found : (fs : List FlatComponent) (k : ℕ) → position (λ f. not (may_be_absent f.presence)) fs ≡ Some k → k + 1 ≡ length (up_to_required (components_view fs))
run_found fs k is =
    let n : ℕ = position_or_len (λ (f : FlatComponent). not (may_be_absent f.presence)) fs in
    let whole = length-run fs in
    by_test (nat_lt (position_or_len (λ (f : FlatComponent). not (may_be_absent f.presence)) fs) (length fs)) refl is
  where
    by_test : (b : Bool) → nat_lt (position_or_len (λ (f : FlatComponent). not (may_be_absent f.presence)) fs) (length fs) ≡ b →
        cond b (Some (position_or_len (λ (f : FlatComponent). not (may_be_absent f.presence)) fs)) None ≡ Some k → k + 1 ≡ length (up_to_required (components_view fs))
    by_test false past is = cc
    by_test true within is =
        let same : position_or_len (λ (f : FlatComponent). not (may_be_absent f.presence)) fs ≡ k = cc in
        ap (λ m. m + 1) (sym same)
        ∙ sym (length-run fs ∙ ap (λ b. cond b (position_or_len (λ (f : FlatComponent). not (may_be_absent f.presence)) fs + 1) (length fs)) within)

pub run_is_all : (fs : List FlatComponent) → position (λ f. not (may_be_absent f.presence)) fs ≡ None → length fs ≡ length (up_to_required (components_view fs))
run_is_all fs is = by_test (nat_lt (position_or_len (λ (f : FlatComponent). not (may_be_absent f.presence)) fs) (length fs)) refl is
  where
    by_test : (b : Bool) → nat_lt (position_or_len (λ (f : FlatComponent). not (may_be_absent f.presence)) fs) (length fs) ≡ b →
        cond b (Some (position_or_len (λ (f : FlatComponent). not (may_be_absent f.presence)) fs)) None ≡ None → length fs ≡ length (up_to_required (components_view fs))
    by_test true within is = cc
    by_test false past is = sym (length-run fs ∙ ap (λ b. cond b (position_or_len (λ (f : FlatComponent). not (may_be_absent f.presence)) fs + 1) (length fs)) past)

up_to_required-fits : (cs : List Component) → length (up_to_required cs) ≤ length cs
up_to_required-fits [] = omega arith
up_to_required-fits (c ∷ cs) = by_test (may_be_absent c.presence) (up_to_required-fits cs)
  where
    by_test : (b : Bool) → length (up_to_required cs) ≤ length cs → length (c ∷ cond b (up_to_required cs) []) ≤ length (c ∷ cs)
    by_test true rest = omega arith
    by_test false rest = omega arith

-- a run is no longer than all
pub run_fits : (fs : List FlatComponent) → length (up_to_required (components_view fs)) ≤ length fs
run_fits fs = let le = up_to_required-fits (components_view fs) in let same = length-map fs component_view in omega arith

-- and has a component where there is one
pub run_is_some : (fs : List FlatComponent) → 0 < length fs → 0 < length (up_to_required (components_view fs))
run_is_some [] some = absurd (omega arith)
run_is_some (f ∷ fs) some = omega arith

held-take : (n : ℕ) (fs : List FlatComponent) → n ≡ length (up_to_required (components_view fs)) → components_view (take n fs) ≡ up_to_required (components_view fs)
held-take n fs is = sym (take-map component_view n fs) ∙ (ap (λ k. take k (components_view fs)) is ∙ up_to_required-take (components_view fs))

by_first_run : (fs : List FlatComponent) (n : ℕ) → n ≡ length (up_to_required (components_view fs)) →
    sequence_clash (components_view fs) ≡ option_or (set_clash (components_view (take n fs))) (shifted n (sequence_clash (components_view (drop n fs))))
by_first_run fs n is =
    clash_by_runs (components_view fs)
    ∙ ((λ i. option_or (set_clash (up_to_required (components_view fs))) (shifted (sym is i) (sequence_clash (drop (sym is i) (components_view fs)))))
    ∙ λ i. option_or (set_clash (sym (held-take n fs is) i)) (shifted n (sequence_clash (drop-map component_view n fs i))))

-- a clash in the run is the first
pub found_in_run : (fs rest : List FlatComponent) (start n i j : ℕ) → sequence_clash (components_view fs) ≡ shifted start (sequence_clash (components_view rest)) →
    n ≡ length (up_to_required (components_view rest)) → Some (i, j) ≡ set_clash (components_view (take n rest)) →
    Some (start + i, start + j) ≡ sequence_clash (components_view fs)
found_in_run fs rest start n i j whole is found =
    sym
    (whole
    ∙ (ap (shifted start) (by_first_run rest n is ∙ ap (λ r. option_or r (shifted n (sequence_clash (components_view (drop n rest))))) (sym found))
    ∙ λ k. Some (first k, second k)))
  where
    first : i + start ≡ start + i
    first = omega arith

    second : j + start ≡ start + j
    second = omega arith

-- and where there is none, the first is further on
pub none_in_run : (fs rest : List FlatComponent) (start n : ℕ) → sequence_clash (components_view fs) ≡ shifted start (sequence_clash (components_view rest)) →
    n ≡ length (up_to_required (components_view rest)) → None ≡ set_clash (components_view (take n rest)) →
    sequence_clash (components_view fs) ≡ shifted (start + n) (sequence_clash (components_view (drop n rest)))
none_in_run fs rest start n whole is found =
    whole
    ∙ (ap (shifted start) (by_first_run rest n is ∙ ap (λ r. option_or r (shifted n (sequence_clash (components_view (drop n rest))))) (sym found))
    ∙ shifted-shifted start n (sequence_clash (components_view (drop n rest))))

-- the indices of a clash are indices of components
pub clash_within : (fs : List FlatComponent) (i j : ℕ) → Some (i, j) ≡ set_clash (components_view fs) → (i < length fs) × (j < length fs)
clash_within fs i j found =
    let is = subst (IsLeast (IsSetClash (components_view fs))) (sym found) (set_clash-is (components_view fs)) in
    let clash = is.0 in
    let second = slice_get_within (components_view fs) j clash.second clash.second_at in
    let same = length-map fs component_view in
    let lt = clash.before in
    (omega arith, omega arith)

-- without components there is no clash
pub none_left : (fs rest : List FlatComponent) (start : ℕ) → sequence_clash (components_view fs) ≡ shifted start (sequence_clash (components_view rest)) → length rest ≡ 0 →
    None ≡ sequence_clash (components_view fs)
none_left fs [] start whole empty = sym whole
none_left fs (f ∷ rest) start whole empty = absurd (omega arith)

-- a test for nothing that fails
pub some_length : (n : ℕ) → false ≡ (n == 0) → 0 < n
some_length zero h = absurd (false≢true h)
some_length (suc n) h = omega arith

-- a test for nothing that holds
pub no_length : (n : ℕ) → true ≡ (n == 0) → n ≡ 0
no_length zero h = refl
no_length (suc n) h = absurd (let some : (suc n == 0) ≡ false = grind (arith, nat_tests) in false≢true (sym some ∙ sym h))
