-- Parcel ::= CHOICE { letter NULL, inner [0] Parcel }
use Rattle.std.specs.Prelude.{[], ◌∷◌, codes, refl}
use Rattle.std.proofs.Common.{inl, inr}
use Rattle.asn1_schema.specs.model.Tags.{context}
use Rattle.asn1_schema.specs.model.contracts.impls.null.UnitAsnType.TheImpl.{ghosts as null}
use Rattle.asn1_schema.specs.model.Meaning.{Meaning}
use Rattle.asn1_schema.specs.model.RecordTables.{Row, Table}
use Rattle.asn1_schema.specs.model.TaggedTypes.{tagged, untagged}
use Rattle.asn1_schema.specs.components.Alternatives.{Alternatives, OneOf, MeansTheSame, ValueMeaning, all_of, alternative, closed, chosen_meaning, means_itself, value_meaning}
use Rattle.asn1_schema.specs.components.ChoiceTypes.{alternatives_with_itself, choice_holding_itself, inside_itself, itself_under, table_with_itself}
use Rattle.asn1_schema.specs.nesting.InsideItself.{in_box}
use Rattle.asn1_user_types.specs.declared.parcel.Parcel.{Parcel, Letter, Inner'}

-- the alternatives, beside what a value inside another is to them
abbrev pub parcel_alternatives_with : Meaning Parcel → Alternatives
parcel_alternatives_with itself = closed (
    alternative (codes "letter") (untagged null.meaning) ∷
    alternative (codes "inner") (tagged (context 0) (in_box itself)) ∷ [])

abbrev pub parcel_table : Table Row
parcel_table = table_with_itself (codes "Parcel") parcel_alternatives_with

-- what the chosen alternative says of each value
abbrev pub parcel_means : Parcel → ValueMeaning
parcel_means (Letter nothing) = value_meaning (untagged null.meaning) nothing
parcel_means (Inner' place inner) = itself_under (codes "Parcel") parcel_table (context 0)
    (parcel_means inner)

-- a value inside another
abbrev pub inner_parcel : Meaning Parcel
inner_parcel = inside_itself (codes "Parcel") parcel_table parcel_means

abbrev pub parcel_alternatives : Alternatives
parcel_alternatives = alternatives_with_itself (codes "Parcel") parcel_alternatives_with parcel_means

abbrev pub parcel_pick : Parcel → OneOf (all_of parcel_alternatives)
parcel_pick (Letter nothing) = inl nothing
parcel_pick (Inner' place inner) = inr (inl (record { ptr = place.ptr; alloc = place.alloc; value = inner }))

pub parcel_agrees : (v : Parcel) → MeansTheSame (parcel_means v) (chosen_meaning (all_of parcel_alternatives) (parcel_pick v))
parcel_agrees (Letter nothing) = means_itself
parcel_agrees (Inner' place inner) = record { records = refl; read = λ _. (λ h. h, λ h. h); of_type = (λ h. h, λ h. h); valid = λ _. (λ h. h, λ h. h) }

-- The meaning of a value.
abbrev pub parcel_meaning : Meaning Parcel
parcel_meaning = choice_holding_itself (codes "Parcel") parcel_alternatives_with parcel_means parcel_pick parcel_agrees
