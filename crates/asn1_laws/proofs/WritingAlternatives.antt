-- A CHOICE under a tag.
use Rattle.std.proofs.Common.{◌≡◌, true, false, if◌then◌else◌, sym, ap, ◌∙◌, subst, Result}
use Rattle.asn1_components.specs.Alternatives.{Alternatives, OneOf, all_of, chosen_meaning, table_of}
use Rattle.asn1_components.specs.ChoiceTypes.{AgreesWithChoice}
use Rattle.asn1_components.specs.ChosenTags.{chosen_tag}
use Rattle.asn1_model.specs.Composites.{alternative_records, explicit_tag_records}
use Rattle.asn1_model.specs.ConstraintSets.{ConstraintSet}
use Rattle.asn1_model.specs.Meaning.{Meaning}
use Rattle.asn1_model.specs.Records.{Name, name_or}
use Rattle.asn1_model.specs.Tags.{CHOICE}
use Rattle.asn1_tags.specs.Tags.{tag_eq}
use Rattle.asn1_tags.specs.declared.tags.Tag.{Tag}
use Rattle.asn1_laws.proofs.WritingSteps.{in_other_words}
use Rattle.asn1_laws.specs.declared.encode_error.EncodeError.{EncodeError}
use Rattle.asn1_laws.specs.Writing.{Writer, Writes}

module _ {E : Type 0} (W : Writer E) {V : Type 0} (m : Meaning V) (alts : Alternatives) (pick : V → OneOf (all_of alts)) where
  -- under a tag other than the CHOICE marker tag; the name is the one given, or the type's own
  pub as_tagged : (v : V) (t : Tag) (c : ConstraintSet) (n k : Name) (a b : E) {A : Type 0} (result : Result A EncodeError) →
      AgreesWithChoice alts pick m → tag_eq t CHOICE ≡ false → k ≡ name_or n m.name →
      Writes W a (explicit_tag_records t k (alternative_records (chosen_tag (all_of alts) (pick v)) m.constraints (table_of alts) m.name (chosen_meaning (all_of alts) (pick v)).records)) (chosen_meaning (all_of alts) (pick v)).IsOfType b result →
      Writes W a (m.records v t c n) (m.IsOfType v) b result
  as_tagged v t c n k a b result law tagged named q =
      let rs = (chosen_meaning (all_of alts) (pick v)).records in
      let chosen = chosen_tag (all_of alts) (pick v) in
      let inner = alternative_records chosen m.constraints (table_of alts) m.name rs in
      subst (λ l. Writes W a l (m.IsOfType v) b result)
      (ap (λ x. explicit_tag_records t x inner) named
      ∙ sym (law.records v t c n ∙ ap (λ x. if x then alternative_records chosen c (table_of alts) (name_or n m.name) rs else explicit_tag_records t (name_or n m.name) inner) tagged))
      (in_other_words W a b (explicit_tag_records t k inner) result ((law.of_type v).1) q)

  -- under the CHOICE marker tag
  pub as_untagged : (v : V) (t : Tag) (c : ConstraintSet) (n k : Name) (a b : E) {A : Type 0} (result : Result A EncodeError) →
      AgreesWithChoice alts pick m → tag_eq t CHOICE ≡ true → k ≡ name_or n m.name →
      Writes W a (alternative_records (chosen_tag (all_of alts) (pick v)) c (table_of alts) k (chosen_meaning (all_of alts) (pick v)).records) (chosen_meaning (all_of alts) (pick v)).IsOfType b result →
      Writes W a (m.records v t c n) (m.IsOfType v) b result
  as_untagged v t c n k a b result law untagged named q =
      let rs = (chosen_meaning (all_of alts) (pick v)).records in
      let chosen = chosen_tag (all_of alts) (pick v) in
      let inner = alternative_records chosen m.constraints (table_of alts) m.name rs in
      subst (λ l. Writes W a l (m.IsOfType v) b result)
      (ap (λ x. alternative_records chosen c (table_of alts) x rs) named
      ∙ sym (law.records v t c n ∙ ap (λ x. if x then alternative_records chosen c (table_of alts) (name_or n m.name) rs else explicit_tag_records t (name_or n m.name) inner) untagged))
      (in_other_words W a b (alternative_records chosen c (table_of alts) k rs) result ((law.of_type v).1) q)
