-- A CHOICE between the call that opens it and the one that closes it.
use Rattle.std.specs.Prelude.{◌≡◌, ℕ, ⊤, Bool, suc, true, false, Ok}
use Rattle.asn1_components.specs.Alternatives.{Alternatives, all_of, trees_of}
use Rattle.asn1_laws.specs.Reading.{Reader, ReadsHead}
use Rattle.asn1_laws.specs.ReadingExactly.{HasOpenedChoice, HasOpenedNamed}
use Rattle.asn1_laws.specs.ReadingTypes.{ReadsHeadOfChoice}
use Rattle.asn1_model.specs.ConstraintSets.{ConstraintSet}
use Rattle.asn1_model.specs.Records.{explicit_tag}
use Rattle.asn1_model.specs.RecordTables.{Row, Table}
use Rattle.asn1_model.specs.Tags.{CHOICE}
use Rattle.asn1_slots.specs.TagIndices.{BeginsAt}
use Rattle.asn1_tags.specs.Tags.{tag_eq}
use Rattle.asn1_tags.specs.declared.tags.Tag.{Tag}

module _ {D : Type 0} (R : Reader D) (alts : Alternatives) where
  -- A CHOICE without a tag was opened, under these constraints: one scope, in which the alternative at
  -- this index is next, since it can begin with the tag that the decoder told.
  pub record IsOpenUntagged (c : ConstraintSet) (old new : D) (index : ℕ) : Type 0 where
    pub tag : Tag
    pub head : ReadsHeadOfChoice R c alts old new (Ok tag)
    pub begins : BeginsAt (trees_of (all_of alts)) index tag
    pub one_less : R.depth_left old ≡ suc (R.depth_left new)
    pub had_not_failed : R.failed old ≡ false

  -- One after a tag was opened, with its own constraints inside: two scopes.
  pub record IsOpenAfter (own : ConstraintSet) (t : Tag) (old new : D) (index : ℕ) : Type 0 where
    pub between : D
    pub head : ReadsHead R {V = ⊤} old between (explicit_tag t) (λ _ _. ⊤) (Ok tt)
    pub one_less : R.depth_left old ≡ suc (R.depth_left between)
    pub had_not_failed : R.failed old ≡ false
    pub inside : IsOpenUntagged own between new index

  -- One under this tag was opened (X.680, 31.2.7): without a tag under the CHOICE marker tag, and after
  -- the tag under any other.
  pub record IsOpen (own : ConstraintSet) (t : Tag) (c : ConstraintSet) (old new : D) (index : ℕ) : Type 0 where
    pub untagged : tag_eq t CHOICE ≡ true → IsOpenUntagged c old new index
    pub tagged : tag_eq t CHOICE ≡ false → IsOpenAfter own t old new index

-- The same, and nothing else was opened.
module _ {D : Type 0} (R : Reader D) (old new : D) (table : Table Row) where
  -- A CHOICE after a tag, with its own constraints inside: what follows the tag was opened, and then the CHOICE.
  abbrev pub HasOpenedChoiceAfterTag : (own : ConstraintSet) → Tag → Type 0
  HasOpenedChoiceAfterTag own t = (between : D) × HasOpenedNamed R old between (explicit_tag t) × HasOpenedChoice R between new own table

  abbrev pub HasOpenedChoiceIfUntagged : (untagged : Bool) → (own : ConstraintSet) → Tag → ConstraintSet → Type 0
  HasOpenedChoiceIfUntagged true own t c = HasOpenedChoice R old new c table
  HasOpenedChoiceIfUntagged false own t c = HasOpenedChoiceAfterTag own t

  -- A CHOICE under this tag.
  abbrev pub HasOpenedChoiceAt : (own : ConstraintSet) → Tag → ConstraintSet → Type 0
  HasOpenedChoiceAt own t c = HasOpenedChoiceIfUntagged (tag_eq t CHOICE) own t c
