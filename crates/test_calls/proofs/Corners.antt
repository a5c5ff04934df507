-- Equal corners are written alike, and there is no SET in a corner.
use Rattle.std.proofs.Common.{rules, ◌≡◌, ◌∙◌, refl, sym}
use Rattle.asn1_model.proofs.SameUpToOrder.{SameAll-refl}
use Rattle.asn1_model.specs.DistinctSets.{SetsAreDistinct}
use Rattle.asn1_model.specs.WrittenAlike.{AreWrittenAlike}
use Rattle.asn1_slots.specs.Cases.{IsMade}
use Rattle.asn1_spelling.proofs.ChoicesAlike.{choice_alike}
use Rattle.asn1_spelling.proofs.EqualCases.{equal_in_case, one_variant}
use Rattle.asn1_spelling.specs.Cases.{case_place, comparisons_of, variant_place}
use Rattle.asn1_types.specs.Words.{choice_agrees}
use Rattle.asn1_samples.specs.contracts.corner.Corner.{as_values, the_parts}
use Rattle.asn1_samples.specs.contracts.corner.CornerAsnType.TheImpl.{ghosts as types}
use Rattle.asn1_samples.specs.contracts.corner.CornerChoice.TheImpl.{ghosts as choices}
use Rattle.asn1_samples.specs.contracts.corner.CornerDecodeChoiceByIndex.TheImpl.{ghosts as readers}
use Rattle.asn1_samples.specs.contracts.corner.CornerPartialEq.TheImpl.{ghosts as equality}
use Rattle.asn1_samples.specs.declared.corner.Corner.{Corner}
use Rattle.asn1_samples.specs.declared.corner.Corner.TheVariants.{Left, Right}

made : (v : Corner) → IsMade equality.eq readers.cases (readers.case_of v) v
made (Left x) = (refl, λ _. refl)
made (Right x) = (refl, λ _. refl)

placed : (v : Corner) → case_place readers.cases (readers.case_of v) ≡ variant_place the_parts (as_values v)
placed (Left x) = refl
placed (Right x) = refl

pub alike : AreWrittenAlike types.meaning equality.eq
alike =
    choice_alike choices.alternatives choices.pick types.meaning equality.eq (comparisons_of readers.cases) choice_agrees (
      (λ can v w same. (let one : v ≡ w = search rules in rw one (SameAll-refl _))),
      ((λ can v w same. (let one : v ≡ w = search rules in rw one (SameAll-refl _))), tt),
    )
    (λ v w same. equal_in_case equality.eq readers.cases (readers.case_of v) (readers.case_of w) v w (made v) (made w)
    (placed v ∙ one_variant the_parts _ (as_values v) (as_values w) same ∙ sym (placed w)) same)

pub distinct : SetsAreDistinct types.meaning
distinct = search rules
