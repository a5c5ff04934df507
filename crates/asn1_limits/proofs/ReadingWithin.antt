-- A value that is read, and then passed on only if it is within limits.
use Rattle.std.proofs.Common.{◌≡◌, ◌⊎◌, Bool, true, false, ◌++◌, Result, Ok, Err, inl, inr, refl, sym, subst, ◌∙◌}
use Rattle.std.specs.Cmp.{IsPartialEquivalence}
use Rattle.std.specs.Prelude.{IfOk}
use Rattle.asn1_tags.specs.declared.tags.Tag.{Tag}
use Rattle.asn1_model.specs.ConstraintSets.{ConstraintSet}
use Rattle.asn1_model.specs.Meaning.{Meaning}
use Rattle.asn1_model.specs.Records.{highest}
use Rattle.asn1_laws.specs.declared.decode_error.DecodeError.{DecodeError}
use Rattle.asn1_laws.specs.declared.decode_error.DecodeError.TheVariants.{Failed}
use Rattle.asn1_laws.specs.Reading.{Reader, AfterReading, HasReadPast, MayFail, ReadsValue, Refuses}
use Rattle.asn1_laws.specs.ReadingExactly.{HasReadValue}
use Rattle.asn1_laws.specs.Refusals.{Refusals}
use Rattle.asn1_laws.proofs.ReadingSteps.{moved_as}
use Rattle.asn1_limits.specs.LimitedTypes.{IsPassedIfWithin, limited_type, refusals_outside}

module _ {D V : Type 0} (R : Reader D) (m : Meaning V) (IsWithin : V → Type 0) (constrained : ConstraintSet → ConstraintSet)
    (eq : V → V → Bool) (laws : IsPartialEquivalence eq) (respects : (v w : V) → eq v w ≡ true → IsWithin v → IsWithin w)
    (t : Tag) (c : ConstraintSet) (old new : D) where
  -- A value within the limits is read back: the answer is equal to it, and so within them too.
  pub reads_within : (answer result : Result V DecodeError) → IsPassedIfWithin IsWithin answer result →
      ReadsValue R m eq t c old new answer → ReadsValue R (limited_type IsWithin constrained m) eq t c old new result
  reads_within (Ok w) (Ok x) passed read = λ v n rest outer tagged of_type valid follow at.
      moved_as R (read v n rest outer tagged of_type.0 valid follow at) (λ equal. subst (λ y. eq y v ≡ true) (sym passed.0) equal)
  reads_within (Ok w) (Err e) passed read = λ v n rest outer tagged of_type valid follow at.
      absurd (passed.1 (respects v w (laws.symm v w ∙ (read v n rest outer tagged of_type.0 valid follow at).answer) of_type.1))
  reads_within (Err e) result passed read =
      subst (λ r. ReadsValue R (limited_type IsWithin constrained m) eq t c old new r) (sym passed)
      (λ v n rest outer tagged of_type valid follow at. read v n rest outer tagged of_type.0 valid follow at)

  -- The decoder is as the reading of the value left it, also where the value is outside.
  pub leaves_within : (answer result : Result V DecodeError) → IsPassedIfWithin IsWithin answer result →
      ReadsValue R m eq t c old new answer → AfterReading R m t c old new answer →
      AfterReading R (limited_type IsWithin constrained m) t c old new result
  leaves_within (Ok w) (Ok x) passed read leaves = record {
    same_depth = leaves.same_depth;
    failed_as_before = leaves.failed_as_before;
    after_error = inl tt;
    failed_before = λ single failed. let wrong = leaves.failed_before single failed in cc;
  }
  leaves_within (Ok w) (Err e) passed read leaves = record {
    same_depth = tt;
    failed_as_before = tt;
    after_error = elim (R.failed new) as (λ b. R.failed new ≡ b → (R.failed new ≡ true) ⊎ HasReadPast R (limited_type IsWithin constrained m) t c old new (Err e)) [
      | true ↦ λ failed. inl failed
      | false ↦ λ not_failed. inr (record {
        same_depth = leaves.same_depth;
        at = λ v n rest outer tagged of_type valid follow at. (read v n rest outer tagged of_type.0 valid follow at).at;
        not_too_deep = λ deep. let is = passed.0 in cc;
        not_failed = λ failed. let is = passed.0 in cc;
        no_failure = not_failed;
      })
    ] refl;
    failed_before = λ single failed. let wrong = leaves.failed_before single failed in cc;
  }
  leaves_within (Err e) result passed read leaves = rw passed (record {
    same_depth = tt;
    failed_as_before = tt;
    after_error = elim leaves.after_error [
      | inl failed ↦ inl failed
      | inr past ↦ inr (record {
        same_depth = past.same_depth;
        at = λ v n rest outer tagged of_type valid follow at. past.at v n rest outer tagged of_type.0 valid follow at;
        not_too_deep = past.not_too_deep;
        not_failed = past.not_failed;
        no_failure = past.no_failure;
      })
    ];
    failed_before = λ single failed. let same = leaves.failed_before single failed in cc;
  })

  -- The records that were read are read as the value within the limits.
  pub was_read_within : (answer result : Result V DecodeError) → IsPassedIfWithin IsWithin answer result →
      IfOk answer (HasReadValue R old new m t c) → IfOk result (HasReadValue R old new (limited_type IsWithin constrained m) t c)
  was_read_within (Ok w) (Ok x) passed only = subst (λ y. HasReadValue R old new m t c y) (sym passed.0) only
  was_read_within (Ok w) (Err e) passed only = tt
  was_read_within (Err e) result passed only = rw passed tt

  -- a decoder that has read a record had not failed
  had_not_failed : (w : V) → AfterReading R m t c old new (Ok w) → m.IsSingleRecord → R.failed new ≡ false
  had_not_failed w leaves single = leaves.failed_as_before ∙ before
    where
      before : R.failed old ≡ false
      before = elim (R.failed old) as (λ b. R.failed old ≡ b → R.failed old ≡ false) [
        | true ↦ λ failed. absurd (let wrong : Ok w ≡ Err Failed = leaves.failed_before single failed in cc)
        | false ↦ λ not_failed. not_failed
      ] refl

  -- The refusals of the type are refused, and so are its values outside the limits; the decoder is then after them.
  pub refuses_within : (refusals : Refusals) (answer result : Result V DecodeError) → IsPassedIfWithin IsWithin answer result →
      ReadsValue R m eq t c old new answer → AfterReading R m t c old new answer → Refuses R refusals t c old new answer →
      Refuses R (refusals_outside m IsWithin refusals) t c old new result
  refuses_within refusals (Ok w) result passed read leaves refuses rs rest outer e (inl is) at =
      absurd (refuses rs rest outer e is at)
  refuses_within refusals (Ok w) (Ok x) passed read leaves refuses rs rest outer e (inr out) at =
      let before = subst (λ l. R.remains old (l ++ rest, outer)) out.records at in
      let back = read out.value out.name rest outer out.is_well_tagged.1 out.of_type out.valid (inl out.is_well_tagged.0) before in
      absurd (out.outside (respects w out.value back.answer passed.1))
  refuses_within refusals (Ok w) (Err f) passed read leaves refuses rs rest outer e (inr out) at =
      let before = subst (λ l. R.remains old (l ++ rest, outer)) out.records at in
      let back = read out.value out.name rest outer out.is_well_tagged.1 out.of_type out.valid (inl out.is_well_tagged.0) before in
      inr (record {
        error = passed.0 ∙ sym out.error;
        at = back.at;
        same_depth = leaves.same_depth;
        no_failure = had_not_failed w leaves out.is_well_tagged.0;
      })
  refuses_within refusals (Err f) result passed read leaves refuses rs rest outer e (inl is) at =
      rw passed (refuses rs rest outer e is at)
  refuses_within refusals (Err f) result passed read leaves refuses rs rest outer e (inr out) at =
      let before = subst (λ l. R.remains old (l ++ rest, outer)) out.records at in
      let failure = read out.value out.name rest outer out.is_well_tagged.1 out.of_type out.valid (inl out.is_well_tagged.0) before in
      rw passed (inl (subst (λ l. MayFail (R.depth_left old) (highest l) f) (sym out.records) failure))
