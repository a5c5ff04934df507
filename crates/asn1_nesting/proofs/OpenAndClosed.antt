-- A CHOICE that was opened, and closed after the alternative at an index was read.
use Rattle.std.proofs.Common.{◌≡◌, ℕ, suc, Bool, true, false, List, Result, Ok, Err, None, refl, sym, ap, ◌∙◌, subst, arith}
use Rattle.std.specs.Prelude.{IfErr, IfOk, IsTrue, OnErr, OnOk, ◌<◌}
use Rattle.asn1_components.specs.Alternatives.{Alternatives, OneOf, all_of, chosen_meaning, trees_of}
use Rattle.asn1_components.specs.ChoiceTypes.{AgreesWithChoice}
use Rattle.asn1_laws.proofs.ReadingChoices.{alternative_not_read, leaves_kept}
use Rattle.asn1_laws.proofs.ReadingWhole.{was_read_as}
use Rattle.asn1_laws.specs.Reading.{AfterReading, Reader, ReadsBack, ReadsValue}
use Rattle.asn1_laws.specs.ReadingExactly.{HasOpenedChoice, HasReadAlternative}
use Rattle.asn1_laws.specs.ReadingTypes.{ReadsAlternative, ReadsHeadOfChoice}
use Rattle.asn1_laws.specs.declared.decode_error.DecodeError.{DecodeError}
use Rattle.asn1_laws.specs.declared.decode_error.DecodeError.TheVariants.{Failed}
use Rattle.asn1_model.specs.ConstraintSets.{ConstraintSet}
use Rattle.asn1_model.specs.Meaning.{Meaning}
use Rattle.asn1_model.specs.RecordTables.{Row, Table}
use Rattle.asn1_model.specs.Tags.{CHOICE, Has, tree_tags}
use Rattle.asn1_slots.proofs.ReadChoices.{case_was_read, its_index, reads_chosen}
use Rattle.asn1_slots.specs.Cases.{Case, IsMade, ReadsCaseAt, alternatives_of}
use Rattle.asn1_slots.specs.TagIndices.{BeginsAt, IsIndexOf}
use Rattle.asn1_tags.specs.Tags.{distinct, tag_eq}
use Rattle.asn1_tags.specs.Trees.{leaves_of}
use Rattle.asn1_tags.specs.declared.tags.Tag.{Tag}
use Rattle.asn1_nesting.specs.InsideItself.{AreCasesOf}
use Rattle.asn1_nesting.specs.OpenChoices.{HasOpenedChoiceAfterTag, HasOpenedChoiceAt, HasOpenedChoiceIfUntagged, IsOpen, IsOpenAfter, IsOpenUntagged}

-- where no alternative has the tag, no value was there
pub none_has : {D V : Type 0} (R : Reader D) {m : Meaning V} {alts : Alternatives} {pick : V → OneOf (all_of alts)} (eq : V → V → Bool) →
    AgreesWithChoice alts pick m → (c : ConstraintSet) (old mid new : D) (tag : Tag) {e : DecodeError} → ReadsHeadOfChoice R c alts old mid (Ok tag) →
    R.depth_left old ≡ suc (R.depth_left mid) → IsIndexOf tag (trees_of (all_of alts)) None → ReadsValue R m eq CHOICE c old new (Err e)
none_has R {alts = alts} {pick = pick} eq law c old mid new tag head less none =
    alternative_not_read R eq law c old mid new new tag head less (λ v rest outer distinct can of_type valid has.
    absurd (none _ (its_index (all_of alts) (pick v) tag can has)))

-- what reads the case at the index of a tag reads the alternative of the tag
pub reads_at_index : {D V : Type 0} (R : Reader D) (eq : V → V → Bool) (hs : List (Case V)) (case_of : V → OneOf (alternatives_of hs))
    (alts : Alternatives) (pick : V → OneOf (all_of alts)) → AreCasesOf hs case_of (all_of alts) pick → ((v : V) → IsMade eq hs (case_of v) v) →
    (index : ℕ) (tag : Tag) (old new : D) (result : Result V DecodeError) → BeginsAt (trees_of (all_of alts)) index tag →
    ReadsCaseAt R hs case_of index old new result → ReadsAlternative R tag alts pick eq old new result
reads_at_index R eq hs case_of alts pick are made index tag old new result begins reads v rest outer distinct_tags can of_type valid has =
    subst (λ rs. ReadsBack R old new rs rest outer (λ w. eq w v ≡ true) result) (are.means v).records
    (reads_chosen R eq old new v rest outer hs case_of index result made tag
    (subst (λ ts. IsTrue (distinct (leaves_of ts))) are.trees distinct_tags) (are.can can)
    (subst (λ tree. Has (tree_tags tree) tag) (are.tree v) has) (subst (λ ts. BeginsAt ts index tag) are.trees begins)
    ((are.means v).of_type.1 of_type) (((are.means v).valid R.accepts).1 valid) reads)

-- what was read as the case at an index was read as the alternative that the value is
pub was_read_at : {D V : Type 0} (R : Reader D) (hs : List (Case V)) (case_of : V → OneOf (alternatives_of hs)) (alts : Alternatives) (pick : V → OneOf (all_of alts)) →
    AreCasesOf hs case_of (all_of alts) pick → (index : ℕ) (old new : D) (v : V) → ReadsCaseAt R hs case_of index old new (Ok v) → HasReadAlternative R old new alts pick v
was_read_at R hs case_of alts pick are index old new v reads =
    was_read_as R old new _ (chosen_meaning (all_of alts) (pick v)).AreReadAs (λ rs. ((are.means v).read rs).0) (case_was_read R old new hs case_of index (Ok v) reads)

-- what holds of an error
pub of_error : {A E : Type 0} {P Q : E → Type 0} (r : Result A E) → ((e : E) → P e → Q e) → IfErr r P → IfErr r Q
of_error (Ok a) f holds = tt
of_error (Err e) f holds = f e holds

-- the state after a call that was not to read a value, and has made the decoder failed
pub leaves_failed : {D V A : Type 0} (R : Reader D) (m : Meaning V) (t : Tag) (c : ConstraintSet) (old new : D) (r : Result A DecodeError) →
    OnErr r (R.failed new ≡ true) → (R.failed old ≡ true → r ≡ Err Failed) → IfErr r (λ e. AfterReading R m t c old new (Err e))
leaves_failed R m t c old new (Ok a) failed before = tt
leaves_failed R m t c old new (Err e) failed before =
    leaves_kept R m t c old new (Err e) (record {
      same_depth = tt;
      no_failure = tt;
      has_failed = failed;
      failed_before = λ had. let is = before had in let same : e ≡ Failed = cc in ap Err same;
    })

-- the depth left after a CHOICE was opened
pub is_deeper : {D : Type 0} (R : Reader D) (alts : Alternatives) (own c : ConstraintSet) (t : Tag) (old new : D) (r : Result ℕ DecodeError) →
    IfOk r (λ index. IsOpen R alts own t c old new index) → OnOk r (R.depth_left new < R.depth_left old)
is_deeper R alts own c t old new (Err e) is_open = tt
is_deeper R alts own c t old new (Ok index) is_open = by_tag (tag_eq t CHOICE) refl
  where
    by_tag : (b : Bool) → tag_eq t CHOICE ≡ b → R.depth_left new < R.depth_left old
    by_tag true is = omega (arith, (is_open.untagged is).one_less)
    by_tag false is = let o = is_open.tagged is in omega (arith, o.one_less, o.inside.one_less)

-- what holds of an answer
pub of_answer : {A E : Type 0} {P Q : A → Type 0} (r : Result A E) → ((a : A) → P a → Q a) → IfOk r P → IfOk r Q
of_answer (Ok a) f holds = f a holds
of_answer (Err e) f holds = tt

-- a CHOICE that was opened without a tag, or after one
module _ {D : Type 0} (R : Reader D) (alts : Alternatives) (own c : ConstraintSet) (t : Tag) (old new : D) (index : ℕ) where
  pub open_without_tag : tag_eq t CHOICE ≡ true → IsOpenUntagged R alts c old new index → IsOpen R alts own t c old new index
  open_without_tag is found = record { untagged = λ _. found; tagged = λ under. let wrong : true ≡ false = sym is ∙ under in cc }

  pub open_with_tag : tag_eq t CHOICE ≡ false → IsOpenAfter R alts own t old new index → IsOpen R alts own t c old new index
  open_with_tag under found = record { untagged = λ is. let wrong : true ≡ false = sym is ∙ under in cc; tagged = λ _. found }

-- what the call that opens one has read, under this tag
module _ {D : Type 0} (R : Reader D) (old new : D) (table : Table Row) (own : ConstraintSet) (t : Tag) (c : ConstraintSet) where
  pub untagged_opened : tag_eq t CHOICE ≡ true → HasOpenedChoiceAt R old new table own t c → HasOpenedChoice R old new c table
  untagged_opened is opens = subst (λ b. HasOpenedChoiceIfUntagged R old new table b own t c) is opens

  pub tagged_opened : tag_eq t CHOICE ≡ false → HasOpenedChoiceAt R old new table own t c → HasOpenedChoiceAfterTag R old new table own t
  tagged_opened is opens = subst (λ b. HasOpenedChoiceIfUntagged R old new table b own t c) is opens

  pub opened_untagged : {A : Type 0} (r : Result A DecodeError) → tag_eq t CHOICE ≡ true → OnOk r (HasOpenedChoice R old new c table) → OnOk r (HasOpenedChoiceAt R old new table own t c)
  opened_untagged r is opens = subst (λ b. OnOk r (HasOpenedChoiceIfUntagged R old new table b own t c)) (sym is) opens

  pub opened_tagged : {A : Type 0} (r : Result A DecodeError) → tag_eq t CHOICE ≡ false → OnOk r (HasOpenedChoiceAfterTag R old new table own t) → OnOk r (HasOpenedChoiceAt R old new table own t c)
  opened_tagged r is opens = subst (λ b. OnOk r (HasOpenedChoiceIfUntagged R old new table b own t c)) (sym is) opens
