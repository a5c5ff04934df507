-- The first clash that is found is the least pair that clashes.
use Rattle.std.proofs.Common.{◌≡◌, ◌⊎◌, inl, inr, ℕ, zero, suc, ◌+◌, ◌<◌, ◌≤◌, Bool, true, false, cond, IsTrue, Option, Some, None, IfSome, List, [], ◌∷◌, add-one, refl, sym, ap, ◌∙◌, subst, arith}
use Rattle.std.specs.List.{position, slice_get}
use Rattle.std.specs.Option.{option_map, option_or}
use Rattle.std.proofs.lemmas.Bool.{cases_lt, false≢true}
use Rattle.std.proofs.lemmas.Option.{none-some, same_Some}
use Rattle.asn1_fields.specs.DistinctTags.{IsLeast, IsSequenceClash, IsSetClash, IsUpTo, ShareTag, first_clash, rivals, sequence_clash, set_clash, share_tag, up_to_required}
use Rattle.asn1_fields.specs.FieldViews.{Component, may_be_absent}
use Rattle.asn1_tags.proofs.ListPositions.{position-found, position-missing}
use Rattle.asn1_fields.proofs.SharedTags.{ShareTag-from_test, test-from_ShareTag}

-- A relation between indices of components by which a component clashes with some of those after it, `others`.
record IsFoundBy (others : Component → List Component → List Component) (IsClash : List Component → ℕ → ℕ → Type 0) : Type 0 where
  nothing : (i j : ℕ) → IsClash [] i j → ⊥
  before : (cs : List Component) (i j : ℕ) → IsClash cs i j → i < j
  here : (c : Component) (cs : List Component) (j : ℕ) (d : Component) → slice_get (others c cs) j ≡ Some d → ShareTag c.tree d.tree → IsClash (c ∷ cs) 0 (suc j)
  from_here : (c : Component) (cs : List Component) (j : ℕ) → IsClash (c ∷ cs) 0 (suc j) → (d : Component) × (slice_get (others c cs) j ≡ Some d) × ShareTag c.tree d.tree
  later : (c : Component) (cs : List Component) (i j : ℕ) → IsClash cs i j → IsClash (c ∷ cs) (suc i) (suc j)
  from_later : (c : Component) (cs : List Component) (i j : ℕ) → IsClash (c ∷ cs) (suc i) (suc j) → IsClash cs i j

module _ (others : Component → List Component → List Component) (IsClash : List Component → ℕ → ℕ → Type 0) (by : IsFoundBy others IsClash) where
  test : Component → Component → Bool
  test c d = share_tag c.tree d.tree

  -- a clash at the first index
  first_is : (c : Component) (cs : List Component) (j : ℕ) → position (λ d. share_tag c.tree d.tree) (others c cs) ≡ Some j →
      IsLeast (IsClash (c ∷ cs)) (Some (0, j + 1))
  first_is c cs j e =
      let found = position-found (λ d. share_tag c.tree d.tree) (others c cs) j c e in (
        subst (IsClash (c ∷ cs) 0) (sym (add-one j)) (by.here c cs j found.0 found.1 (ShareTag-from_test c.tree found.0.tree found.2)),
        least found.3,
      )
    where
      least : ((k : ℕ) (y : Component) → k < j → slice_get (others c cs) k ≡ Some y → share_tag c.tree y.tree ≡ false) →
          (i k : ℕ) → IsClash (c ∷ cs) i k → IsUpTo (0, j + 1) (i, k)
      least none (suc i) k clash = inl (omega arith)
      least none zero zero clash = let lt = by.before (c ∷ cs) 0 0 clash in absurd (omega arith)
      least none zero (suc k) clash = by_order (cases_lt k j)
        where
          by_order : (k < j) ⊎ (j ≤ k) → IsUpTo (0, j + 1) (0, suc k)
          by_order (inr le) = inr (refl, omega arith)
          by_order (inl lt) =
              let other = by.from_here c cs k clash in
              absurd (false≢true (sym (none k other.0 lt other.1) ∙ test-from_ShareTag c.tree other.0.tree other.2))

  -- no clash at the first index
  later_is : (c : Component) (cs : List Component) (o : Option (ℕ × ℕ)) → position (λ d. share_tag c.tree d.tree) (others c cs) ≡ None →
      IsLeast (IsClash cs) o → IsLeast (IsClash (c ∷ cs)) (option_map (λ p. (p.0 + 1, p.1 + 1)) o)
  later_is c cs o e least = by_cases o least
    where
      not_here : (k : ℕ) → IsClash (c ∷ cs) 0 k → ⊥
      not_here zero clash = let lt = by.before (c ∷ cs) 0 0 clash in absurd (omega arith)
      not_here (suc k) clash =
          let other = by.from_here c cs k clash in
          false≢true
          (sym (position-missing (λ d. share_tag c.tree d.tree) (others c cs) k other.0 e other.1) ∙ test-from_ShareTag c.tree other.0.tree other.2)

      by_cases : (o : Option (ℕ × ℕ)) → IsLeast (IsClash cs) o → IsLeast (IsClash (c ∷ cs)) (option_map (λ p. (p.0 + 1, p.1 + 1)) o)
      by_cases None none = absent
        where
          absent : (i k : ℕ) → IsClash (c ∷ cs) i k → ⊥
          absent zero k clash = not_here k clash
          absent (suc i) zero clash = let lt = by.before (c ∷ cs) (suc i) 0 clash in absurd (omega arith)
          absent (suc i) (suc k) clash = none i k (by.from_later c cs i k clash)
      by_cases (Some p) found = (
        subst (λ n. IsClash (c ∷ cs) (p.0 + 1) n) (sym (add-one p.1))
            (subst (λ n. IsClash (c ∷ cs) n (suc p.1)) (sym (add-one p.0)) (by.later c cs p.0 p.1 found.0)),
        up_to,
      )
        where
          up_to : (i k : ℕ) → IsClash (c ∷ cs) i k → IsUpTo (p.0 + 1, p.1 + 1) (i, k)
          up_to zero k clash = absurd (not_here k clash)
          up_to (suc i) zero clash = let lt = by.before (c ∷ cs) (suc i) 0 clash in absurd (omega arith)
          up_to (suc i) (suc k) clash =
              elim (found.1 i k (by.from_later c cs i k clash)) [
                | inl lt ↦ inl (omega arith)
                | inr le ↦ inr (omega (arith, le.0), omega (arith, le.1))
              ]

  first_clash-is : (cs : List Component) → IsLeast (IsClash cs) (first_clash others cs)
  first_clash-is [] = λ i j. by.nothing i j
  first_clash-is (c ∷ cs) = by_index (first_clash-is cs) (position (λ d. share_tag c.tree d.tree) (others c cs)) refl
    where
      by_index : IsLeast (IsClash cs) (first_clash others cs) → (o : Option ℕ) → position (λ d. share_tag c.tree d.tree) (others c cs) ≡ o →
          IsLeast (IsClash (c ∷ cs)) (option_or (option_map (λ j. (0, j + 1)) o) (option_map (λ p. (p.0 + 1, p.1 + 1)) (first_clash others cs)))
      by_index rest (Some j) e = first_is c cs j e
      by_index rest None e = later_is c cs (first_clash others cs) e rest

-- in a SET each component clashes with any after it
set_clashes : IsFoundBy (λ c cs. cs) IsSetClash
set_clashes = record {
  nothing = λ i j clash. none-some clash.first clash.first_at;
  before = λ cs i j clash. clash.before;
  here = λ c cs j d at shared. record { first = c; second = d; first_at = refl; second_at = at; before = omega arith; shared = shared };
  from_here = λ c cs j clash. (
    clash.second,
    clash.second_at,
    subst (λ x. ShareTag x.tree clash.second.tree) (sym (same_Some c clash.first clash.first_at)) clash.shared,
  );
  later = λ c cs i j clash. record {
    first = clash.first;
    second = clash.second;
    first_at = clash.first_at;
    second_at = clash.second_at;
    before = let lt = clash.before in omega arith;
    shared = clash.shared;
  };
  from_later = λ c cs i j clash. record {
    first = clash.first;
    second = clash.second;
    first_at = clash.first_at;
    second_at = clash.second_at;
    before = let lt = clash.before in omega arith;
    shared = clash.shared;
  };
}

-- all components before an index may be absent
abbrev MayBeAbsentBelow : List Component → ℕ → Type 0
MayBeAbsentBelow cs j = (k : ℕ) → k < j → IfSome (slice_get cs k) (λ c. IsTrue (may_be_absent c.presence))

below_suc : (c : Component) (cs : List Component) (j : ℕ) → may_be_absent c.presence ≡ true → MayBeAbsentBelow cs j → MayBeAbsentBelow (c ∷ cs) (suc j)
below_suc c cs j absent run zero lt = absent
below_suc c cs j absent run (suc k) lt = run k (omega arith)

-- the components up to the first that must be there are those before which all may be absent
from_up_to_required : (cs : List Component) (j : ℕ) (d : Component) → slice_get (up_to_required cs) j ≡ Some d →
    (slice_get cs j ≡ Some d) × MayBeAbsentBelow cs j
from_up_to_required [] j d e = absurd (none-some d e)
from_up_to_required (c ∷ cs) zero d e = (e, λ k lt. absurd (omega arith))
from_up_to_required (c ∷ cs) (suc j) d e = by_test (from_up_to_required cs j d) (may_be_absent c.presence) refl e
  where
    by_test : (slice_get (up_to_required cs) j ≡ Some d → (slice_get cs j ≡ Some d) × MayBeAbsentBelow cs j) →
        (b : Bool) → may_be_absent c.presence ≡ b → slice_get (cond b (up_to_required cs) []) j ≡ Some d →
        (slice_get cs j ≡ Some d) × MayBeAbsentBelow (c ∷ cs) (suc j)
    by_test rest false f e = absurd (none-some d e)
    by_test rest true f e = let more = rest e in (more.0, below_suc c cs j f more.1)

to_up_to_required : (cs : List Component) (j : ℕ) (d : Component) → slice_get cs j ≡ Some d → MayBeAbsentBelow cs j →
    slice_get (up_to_required cs) j ≡ Some d
to_up_to_required [] j d e run = e
to_up_to_required (c ∷ cs) zero d e run = e
to_up_to_required (c ∷ cs) (suc j) d e run =
    let absent : may_be_absent c.presence ≡ true = run 0 (omega arith) in
    ap (λ b. slice_get (cond b (up_to_required cs) []) j) absent ∙ to_up_to_required cs j d e (λ k lt. run (suc k) (omega arith))

-- in a SEQUENCE it clashes with those up to the first that must be there, where it may be absent itself
sequence_clashes : IsFoundBy rivals IsSequenceClash
sequence_clashes = record {
  nothing = λ i j clash. set_clashes.nothing i j clash.pair;
  before = λ cs i j clash. clash.pair.before;
  here = here;
  from_here = λ c cs j clash.
      let absent : may_be_absent c.presence ≡ true = clash.run 0 (omega arith) (omega arith) in
      let other = set_clashes.from_here c cs j clash.pair in (
        other.0,
        ap (λ b. slice_get (cond b (up_to_required cs) []) j) absent
            ∙ to_up_to_required cs j other.0 other.1 (λ k lt. clash.run (suc k) (omega arith) (omega arith)),
        other.2,
      );
  later = λ c cs i j clash. record { pair = set_clashes.later c cs i j clash.pair; run = later_run c cs i j clash.run };
  from_later = λ c cs i j clash. record {
    pair = set_clashes.from_later c cs i j clash.pair;
    run = λ k le lt. clash.run (suc k) (omega arith) (omega arith);
  };
}
  where
    later_run : (c : Component) (cs : List Component) (i j : ℕ) →
        ((k : ℕ) → i ≤ k → k < j → IfSome (slice_get cs k) (λ d. IsTrue (may_be_absent d.presence))) →
        (k : ℕ) → suc i ≤ k → k < suc j → IfSome (slice_get (c ∷ cs) k) (λ d. IsTrue (may_be_absent d.presence))
    later_run c cs i j run zero le lt = absurd (omega arith)
    later_run c cs i j run (suc k) le lt = run k (omega arith) (omega arith)

    by_test : (c : Component) (cs : List Component) (j : ℕ) (d : Component) (b : Bool) → may_be_absent c.presence ≡ b →
        slice_get (cond b (up_to_required cs) []) j ≡ Some d → ShareTag c.tree d.tree → IsSequenceClash (c ∷ cs) 0 (suc j)
    by_test c cs j d false f e shared = absurd (none-some d e)
    by_test c cs j d true f e shared =
        let other = from_up_to_required cs j d e in
        record {
          pair = set_clashes.here c cs j d other.0 shared;
          run = λ k le lt. below_suc c cs j f other.1 k lt;
        }

    here : (c : Component) (cs : List Component) (j : ℕ) (d : Component) → slice_get (rivals c cs) j ≡ Some d → ShareTag c.tree d.tree → IsSequenceClash (c ∷ cs) 0 (suc j)
    here c cs j d e shared = by_test c cs j d (may_be_absent c.presence) refl e shared

-- the definitions answer the least pairs
pub sequence_clash-is : (cs : List Component) → IsLeast (IsSequenceClash cs) (sequence_clash cs)
sequence_clash-is cs = first_clash-is rivals IsSequenceClash sequence_clashes cs

pub set_clash-is : (cs : List Component) → IsLeast (IsSetClash cs) (set_clash cs)
set_clash-is cs = first_clash-is (λ c following. following) IsSetClash set_clashes cs
