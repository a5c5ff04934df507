-- A SET: it is opened, what is in it is read in any order, a value is made of that, and it is closed.
use Rattle.std.proofs.Common.{◌≡◌, ◌≤◌, ℕ, suc, Bool, true, Ok, Err, inl, arith}
use Rattle.std.specs.Prelude.{⊤}
use Rattle.asn1_components.specs.Components.{Components, component_records, is_set, rows}
use Rattle.asn1_model.specs.Records.{set}
use Rattle.asn1_model.proofs.SameRecords.{highest-permutation}
use Rattle.asn1_tags.specs.declared.tags.Tag.{Tag}
use Rattle.asn1_laws.specs.Reading.{Reader, ReadsEnd, ReadsHeadOfSet, records_in}
use Rattle.asn1_laws.specs.ReadingTypes.{ReadsComponents, ReadsSetLeft}
use Rattle.asn1_laws.specs.declared.decode_error.DecodeError.{DecodeError}
use Rattle.asn1_laws.specs.declared.decode_error.DecodeError.TheVariants.{Memory}
use Rattle.asn1_laws.proofs.ReadingSteps.{fails_inside, flat_failure, within_scope}
use Rattle.asn1_laws.proofs.RecordsIn.{records_in-permutation}

module _ {D V : Type 0} (R : Reader D) (t : Tag) (components : Components V) (eq : V → V → Bool) (old mid end new : D) (bound : ℕ)
    (opens : ReadsHeadOfSet R old mid (set t (rows components)) (λ items most. records_in items ≤ most) (Ok bound)) where
  -- what is in it was not read
  pub inside_not_read : {e : DecodeError} → R.depth_left old ≡ suc (R.depth_left mid) → ReadsSetLeft R {W = ⊤} bound components (λ _ _. ⊤) mid end (Err e) →
      ReadsComponents R is_set t components eq old new (Err e)
  inside_not_read less reads v n rest outer can of_type valid at =
      let rs = component_records components v in
      let s = opens n rs rest outer at in
      let r = reads v t n s.order rest outer can of_type valid s.rearranged (omega (arith, s.moved.answer, records_in-permutation s.order rs s.rearranged)) s.moved.at in
      fails_inside (set t (rows components) n) rs _ _ less (rw (highest-permutation s.order rs s.rearranged) at r)

  module _ {W : Type 0} (w : W) (Is : V → W → Type 0) (reads : ReadsSetLeft R bound components Is mid end (Ok w)) where
    -- no value was made
    pub not_made : {e : DecodeError} → ((v : V) → Is v w → e ≡ Memory) → ReadsComponents R is_set t components eq old new (Err e)
    not_made makes v n rest outer can of_type valid at =
        let rs = component_records components v in
        let s = opens n rs rest outer at in
        let r = reads v t n s.order rest outer can of_type valid s.rearranged (omega (arith, s.moved.answer, records_in-permutation s.order rs s.rearranged)) s.moved.at in
        inl (makes v r.answer)

    -- it was not closed
    pub not_closed : {e : DecodeError} → ReadsEnd R {V = ⊤} end new (Err e) → ReadsComponents R is_set t components eq old new (Err e)
    not_closed closes v n rest outer can of_type valid at =
        let rs = component_records components v in
        let s = opens n rs rest outer at in
        let r = reads v t n s.order rest outer can of_type valid s.rearranged (omega (arith, s.moved.answer, records_in-permutation s.order rs s.rearranged)) s.moved.at in
        flat_failure _ _ _ (closes _ rest outer r.at)

    -- it was read
    pub is_read : (x : V) → R.depth_left old ≡ suc (R.depth_left mid) → ((v : V) → Is v w → eq x v ≡ true) → ReadsEnd R {V = ⊤} end new (Ok tt) →
        ReadsComponents R is_set t components eq old new (Ok x)
    is_read x less makes closes v n rest outer can of_type valid at =
        let rs = component_records components v in
        let s = opens n rs rest outer at in
        let r = reads v t n s.order rest outer can of_type valid s.rearranged (omega (arith, s.moved.answer, records_in-permutation s.order rs s.rearranged)) s.moved.at in
        let k = closes _ rest outer r.at in
        record {
          answer = makes v r.answer;
          at = k.at;
          within_depth_left = within_scope (set t (rows components) n) rs _ _ less (rw (highest-permutation s.order rs s.rearranged) at r.within_depth_left);
        }
