-- A component with a default: one that may be absent, and what the default's closure answers where it is.
use Rattle.std.proofs.Common.{◌≡◌, Bool, true, false, Option, None, Some, Result, Ok, Err, refl, inl, sym, ◌∙◌, subst}
use Rattle.std.specs.Cmp.{IsEquivalence}
use Rattle.std.specs.Option.{IfSome, IfNone}
use Rattle.std.specs.Result.{MatchResult}
use Rattle.asn1_model.specs.Records.{Side}
use Rattle.asn1_laws.specs.GivenTypes.{Named}
use Rattle.asn1_laws.specs.Reading.{Reader}
use Rattle.asn1_laws.specs.ReadingTypes.{ReadsDefault, ReadsOptional}
use Rattle.asn1_laws.specs.declared.decode_error.DecodeError.{DecodeError}
use Rattle.asn1_laws.specs.declared.decode_error.DecodeError.TheVariants.{Memory}

module _ {D V : Type 0} (R : Reader D) (side : Side) (type : Named V) (eq : V → V → Bool) (IsDefault : V → Type 0) where
  -- whether it is there could not be told, or it was not read
  pub default_fails : (old new : D) (e : DecodeError) → ReadsOptional R side type eq old new (Err e) → ReadsDefault R side type IsDefault eq old new (Err e)
  default_fails old new e reads v true n rest outer is can of_type valid apart at = reads None n rest outer can tt tt (λ _. apart refl) at
  default_fails old new e reads v false n rest outer is can of_type valid apart at = reads (Some v) n rest outer can (of_type refl) (valid refl) (λ none. cc) at

  -- it was read, or the closure was asked
  pub default_reads : (law : IsEquivalence eq) (old mid new : D) (value : Option V) (result : Result V DecodeError) → ReadsOptional R side type eq old mid (Ok value) →
      IfSome value (λ v. (result ≡ Ok v) × (new ≡ mid)) →
      IfNone value (MatchResult result (λ default_value. IsDefault default_value × (new ≡ mid)) (λ e. (e ≡ Memory) × (R.failed new ≡ true))) →
      ReadsDefault R side type IsDefault eq old new result
  default_reads law old mid new (Some w) result reads there away v true n rest outer is can of_type valid apart at =
      let wrong = (reads None n rest outer can tt tt (λ _. apart refl) at).answer in cc
  default_reads law old mid new (Some w) result reads there away v false n rest outer is can of_type valid apart at =
      let r = reads (Some v) n rest outer can (of_type refl) (valid refl) (λ none. cc) at in
      rw there.0 (record { answer = r.answer; at = subst (λ d. R.remains d (rest, outer)) (sym there.1) r.at; within_depth_left = r.within_depth_left })
  default_reads law old mid new None (Ok default_value) reads there away v true n rest outer is can of_type valid apart at =
      let r = reads None n rest outer can tt tt (λ _. apart refl) at in
      record { answer = law.symm default_value v ∙ is default_value away.0; at = subst (λ d. R.remains d (rest, outer)) (sym away.1) r.at; within_depth_left = r.within_depth_left }
  default_reads law old mid new None (Err e) reads there away v true n rest outer is can of_type valid apart at = inl away.0
  default_reads law old mid new None result reads there away v false n rest outer is can of_type valid apart at =
      let wrong = (reads (Some v) n rest outer can (of_type refl) (valid refl) (λ none. cc) at).answer in cc
