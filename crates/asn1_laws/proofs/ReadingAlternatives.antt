-- A CHOICE under a tag.
use Rattle.std.proofs.Common.{◌≡◌, Bool, true, false, if◌then◌else◌, Result, ap, sym, ◌∙◌, subst}
use Rattle.asn1_components.specs.Alternatives.{Alternatives, OneOf, all_of}
use Rattle.asn1_components.specs.ChoiceTypes.{AgreesWithChoice}
use Rattle.asn1_laws.specs.Reading.{Reader, ReadsBack, ReadsValue}
use Rattle.asn1_laws.specs.ReadingTypes.{ReadsChoice}
use Rattle.asn1_laws.specs.TaggedChoices.{ReadsAfterTag, chosen_records}
use Rattle.asn1_laws.specs.declared.decode_error.DecodeError.{DecodeError}
use Rattle.asn1_model.specs.Composites.{explicit_tag_records}
use Rattle.asn1_model.specs.ConstraintSets.{ConstraintSet}
use Rattle.asn1_model.specs.Meaning.{Meaning}
use Rattle.asn1_model.specs.Records.{Name, name_or}
use Rattle.asn1_model.specs.Tags.{CHOICE}
use Rattle.asn1_tags.specs.Tags.{tag_eq}
use Rattle.asn1_tags.specs.declared.tags.Tag.{Tag}

module _ {D V : Type 0} (R : Reader D) (m : Meaning V) (alts : Alternatives) (pick : V → OneOf (all_of alts)) (eq : V → V → Bool) where
  -- the records of a value under a tag, by whether that is the CHOICE marker tag
  of_tag : (law : AgreesWithChoice alts pick m) (v : V) (t : Tag) (c : ConstraintSet) (n : Name) {b : Bool} → tag_eq t CHOICE ≡ b →
      m.records v t c n ≡ (if b then chosen_records c (name_or n m.name) alts (pick v) else explicit_tag_records t (name_or n m.name) (chosen_records m.constraints m.name alts (pick v)))
  of_tag law v t c n is =
      law.records v t c n ∙ ap (λ b. if b then chosen_records c (name_or n m.name) alts (pick v) else explicit_tag_records t (name_or n m.name) (chosen_records m.constraints m.name alts (pick v))) is

  -- what reads the alternative reads a value of the type, where that is written under no tag
  pub as_untagged : (t : Tag) (c : ConstraintSet) (old new : D) (result : Result V DecodeError) → AgreesWithChoice alts pick m → tag_eq t CHOICE ≡ true →
      ReadsChoice R c alts pick eq old new result → ReadsValue R m eq t c old new result
  as_untagged t c old new result law untagged reads v n rest outer tagged of_type valid follow =
      let both = (law.distinct_tags t).0 tagged in
      subst (λ rs. ReadsBack R old new rs rest outer (λ w. eq w v ≡ true) result) (sym (of_tag law v t c n untagged))
      (reads v (name_or n m.name) rest outer both.0 both.1 ((law.of_type v).0 of_type) ((law.valid R.accepts v).0 valid))

  -- and what reads it after a tag does, where that is the tag
  pub as_tagged : (t : Tag) (c : ConstraintSet) (old new : D) (result : Result V DecodeError) → AgreesWithChoice alts pick m → tag_eq t CHOICE ≡ false →
      ReadsAfterTag R t m.constraints m.name alts pick eq old new result → ReadsValue R m eq t c old new result
  as_tagged t c old new result law under reads v n rest outer tagged of_type valid follow =
      let both = (law.distinct_tags t).0 tagged in
      subst (λ rs. ReadsBack R old new rs rest outer (λ w. eq w v ≡ true) result) (sym (of_tag law v t c n under))
      (reads v (name_or n m.name) rest outer both.0 both.1 ((law.of_type v).0 of_type) ((law.valid R.accepts v).0 valid))
