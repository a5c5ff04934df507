-- A component that may be absent.
use Rattle.std.proofs.Common.{◌≡◌, Bool, true, false, List, ◌++◌, Option, None, Some, Result, Ok, Err, refl, inl, inr, arith, sym, subst}
use Rattle.std.specs.Option.{option_eq, option_map}
use Rattle.asn1_tags.specs.declared.tags.Tag.{Tag}
use Rattle.asn1_model.specs.Composites.{option_records}
use Rattle.asn1_model.specs.ConstraintSets.{ConstraintSet}
use Rattle.asn1_model.specs.Kinds.{option_type}
use Rattle.asn1_model.specs.Meaning.{Meaning, tags}
use Rattle.asn1_model.specs.Records.{Name, PresenceMark, Record, Side, in_root}
use Rattle.asn1_model.specs.Tags.{BeginsWithin, Tags, ShareNone, first_tags, tree_tags}
use Rattle.asn1_model.proofs.FirstTags.{begins_before, one_begins}
use Rattle.asn1_laws.specs.GivenTypes.{Named}
use Rattle.asn1_laws.specs.Reading.{MayFollow, Reader, TellsPresence}
use Rattle.asn1_laws.specs.ReadingTypes.{Reads, ReadsOptional, TellsIfThere}
use Rattle.asn1_laws.specs.declared.decode_error.DecodeError.{DecodeError}
use Rattle.asn1_laws.proofs.ReadingSteps.{fails_below, flat_failure}

-- what may follow an option that is absent begins with none of its tags
pub after_option : {V : Type 0} (m : Meaning V) (t : Tag) (c : ConstraintSet) (n : Name) (v : Option V) (rest : List Record) →
    MayFollow (option_type m) t (option_records in_root t (option_map (λ w. m.records w t c n) v)) rest → v ≡ None → ShareNone (tags m t) (first_tags rest)
after_option m t c n None rest (inl never) none = absurd never
after_option m t c n None rest (inr apart) none = apart refl
after_option m t c n (Some w) rest follow none = cc

-- a call that was asked by equal tags
pub told_of : {D : Type 0} (R : Reader D) (old new : D) {there away : PresenceMark} {asked own : Tags} {result : Result Bool DecodeError} → asked ≡ own →
    TellsPresence R old new there away asked result → TellsPresence R old new there away own result
told_of R old new {there} {away} {result = result} is tells = subst (λ tags. TellsPresence R old new there away tags result) is tells

module _ {D V : Type 0} (R : Reader D) (side : Side) (type : Named V) (eq : V → V → Bool) where
  begins : (x : V) (n : Name) (rest : List Record) → (type n).IsWellTagged → BeginsWithin (tree_tags (type n).tree) ((type n).records x ++ rest)
  begins x n rest can = begins_before (tree_tags (type n).tree) ((type n).records x) rest (one_begins (tree_tags (type n).tree) ((type n).records x) ((type n).one_record can x))

  -- whether it is there could not be told
  pub not_told : (old new : D) {e : DecodeError} → TellsIfThere R side type old new (Err e) → ReadsOptional R side type eq old new (Err e)
  not_told old new tells None n rest outer can of_type valid apart at = flat_failure _ _ _ ((tells n).away rest outer (apart refl) at)
  not_told old new tells (Some x) n rest outer can of_type valid apart at =
      flat_failure _ _ _ ((tells n).there ((type n).records x ++ rest) outer (begins x n rest can) at)

  -- it is not there
  pub is_absent : (old new : D) {b : Bool} → TellsIfThere R side type old new (Ok b) → b ≡ false → ReadsOptional R side type eq old new (Ok None)
  is_absent old new tells miss None n rest outer can of_type valid apart at =
      let p = (tells n).away rest outer (apart refl) at in
      record { answer = refl; at = p.at; within_depth_left = omega arith }
  is_absent old new tells miss (Some x) n rest outer can of_type valid apart at =
      let wrong = ((tells n).there ((type n).records x ++ rest) outer (begins x n rest can) at).answer in cc

  -- it is there, and what follows reads it
  pub is_there : (old mid new : D) {b : Bool} (result : Result (Option V) DecodeError) → TellsIfThere R side type old mid (Ok b) → b ≡ true → R.depth_left mid ≡ R.depth_left old →
      Reads R type (λ w v. option_eq eq w (Some v)) mid new result → ReadsOptional R side type eq old new result
  is_there old mid new result tells hit same reads None n rest outer can of_type valid apart at =
      let wrong = ((tells n).away rest outer (apart refl) at).answer in cc
  is_there old mid new (Ok w) tells hit same reads (Some x) n rest outer can of_type valid apart at =
      let p = (tells n).there ((type n).records x ++ rest) outer (begins x n rest can) at in
      let r = reads x n rest outer can of_type valid p.at in
      record { answer = r.answer; at = r.at; within_depth_left = omega (arith, r.within_depth_left, same) }
  is_there old mid new (Err e) tells hit same reads (Some x) n rest outer can of_type valid apart at =
      let p = (tells n).there ((type n).records x ++ rest) outer (begins x n rest can) at in
      fails_below _ _ _ (sym same) (omega arith) (reads x n rest outer can of_type valid p.at)
