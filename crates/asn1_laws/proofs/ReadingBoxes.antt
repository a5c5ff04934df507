-- A value that is read into a box.
use Rattle.std.proofs.Common.{◌≡◌, ◌⊎◌, Bool, true, false, Result, Ok, Err, inl, inr, refl, subst, sym}
use Rattle.std.specs.Prelude.{IfOk}
use Rattle.std.specs.Result.{MatchResult}
use Rattle.asn1_laws.specs.ReadingExactly.{HasReadValue}
use Rattle.asn1_tags.specs.declared.tags.Tag.{Tag}
use Rattle.asn1_model.specs.ConstraintSets.{ConstraintSet}
use Rattle.asn1_model.specs.Kinds.{wrapper_type, under_own_name}
use Rattle.asn1_model.specs.Meaning.{Meaning}
use Rattle.asn1_model.specs.Records.{name_or}
use Rattle.asn1_laws.specs.declared.decode_error.DecodeError.{DecodeError}
use Rattle.asn1_laws.specs.declared.decode_error.DecodeError.TheVariants.{Memory}
use Rattle.asn1_laws.specs.Reading.{Reader, HasReadPast, AfterReading, ReadsValue, Refuses}
use Rattle.asn1_laws.specs.Refusals.{Refusals}

module _ {D V W : Type 0} (R : Reader D) (m : Meaning V) (value : W → V) (t : Tag) (c : ConstraintSet) (old new : D) where
  -- The decoder is as the reading of the value left it, also where there was no memory for the box.
  pub leaves_boxed : (eq : V → V → Bool) (answer : Result V DecodeError) (result : Result W DecodeError) →
      ReadsValue R m eq t c old new answer → AfterReading R m t c old new answer →
      MatchResult answer (λ v. MatchResult result (λ w. value w ≡ v) (λ e. e ≡ Memory)) (λ e. result ≡ Err e) →
      AfterReading R (under_own_name (wrapper_type value m)) t c old new result
  leaves_boxed eq (Ok v) (Ok w) read leaves boxed = record {
    same_depth = leaves.same_depth;
    failed_as_before = leaves.failed_as_before;
    after_error = inl tt;
    failed_before = λ single failed. let wrong = leaves.failed_before single failed in cc;
  }
  leaves_boxed eq (Ok v) (Err e) read leaves boxed = record {
    same_depth = tt;
    failed_as_before = tt;
    after_error = elim (R.failed new) as (λ b. R.failed new ≡ b → (R.failed new ≡ true) ⊎ HasReadPast R (under_own_name (wrapper_type value m)) t c old new (Err e)) [
      | true ↦ λ failed. inl failed
      | false ↦ λ not_failed. inr (record {
        same_depth = leaves.same_depth;
        at = λ w n rest outer tagged of_type valid follow at. (read (value w) (name_or n m.name) rest outer tagged of_type valid follow at).at;
        not_too_deep = λ deep. cc;
        not_failed = λ failed. cc;
        no_failure = not_failed;
      })
    ] refl;
    failed_before = λ single failed. let wrong = leaves.failed_before single failed in cc;
  }
  leaves_boxed eq (Err e) result read leaves boxed = rw boxed (record {
    same_depth = tt;
    failed_as_before = tt;
    after_error = elim leaves.after_error [
      | inl failed ↦ inl failed
      | inr past ↦ inr (record {
        same_depth = past.same_depth;
        at = λ w n rest outer tagged of_type valid follow at. past.at (value w) (name_or n m.name) rest outer tagged of_type valid follow at;
        not_too_deep = past.not_too_deep;
        not_failed = past.not_failed;
        no_failure = past.no_failure;
      })
    ];
    failed_before = λ single failed. let same = leaves.failed_before single failed in cc;
  })

  -- A box refuses the records that the type of its value refuses.
  pub refuses_boxed : (refusals : Refusals) (answer : Result V DecodeError) (result : Result W DecodeError) →
      Refuses R refusals t c old new answer →
      MatchResult answer (λ v. MatchResult result (λ w. value w ≡ v) (λ e. e ≡ Memory)) (λ e. result ≡ Err e) →
      Refuses R refusals t c old new result
  refuses_boxed refusals (Ok v) result refuses boxed = λ rs rest outer e is at. absurd (refuses rs rest outer e is at)
  refuses_boxed refusals (Err f) result refuses boxed = λ rs rest outer e is at. rw boxed (refuses rs rest outer e is at)

  -- what was read is read as the value in the box
  pub was_read_boxed : (answer : Result V DecodeError) (result : Result W DecodeError) → IfOk answer (HasReadValue R old new m t c) →
      MatchResult answer (λ v. MatchResult result (λ w. value w ≡ v) (λ e. e ≡ Memory)) (λ e. result ≡ Err e) →
      IfOk result (HasReadValue R old new (under_own_name (wrapper_type value m)) t c)
  was_read_boxed (Ok v) (Ok w) only boxed = subst (λ x. HasReadValue R old new m t c x) (sym boxed) only
  was_read_boxed (Ok v) (Err e) only boxed = tt
  was_read_boxed (Err e) result only boxed = rw boxed tt
