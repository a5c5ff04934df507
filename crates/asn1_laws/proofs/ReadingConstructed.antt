-- A SEQUENCE or SET type, whose meaning is that of its components.
use Rattle.std.proofs.Common.{◌≡◌, Bool, true, List, [], ◌∷◌, Result, ap, sym, ◌∙◌, subst}
use Rattle.asn1_tags.specs.declared.tags.Tag.{Tag}
use Rattle.asn1_components.specs.Components.{AgreesWithComponents, AreDistinctIn, Components, Kind, all_components, component_records, head_of_kind, rows}
use Rattle.asn1_model.specs.ConstraintSets.{ConstraintSet}
use Rattle.asn1_model.specs.Meaning.{Meaning}
use Rattle.asn1_model.specs.Records.{holding}
use Rattle.asn1_laws.specs.declared.decode_error.DecodeError.{DecodeError}
use Rattle.asn1_laws.specs.Reading.{Reader, ReadsBack, ReadsValue}
use Rattle.asn1_laws.specs.ReadingTypes.{ReadsComponents}

-- what reads the components reads a value of the type
pub as_constructed : {D V : Type 0} (k : Kind) (R : Reader D) (m : Meaning V) (components : Components V) (eq : V → V → Bool) (t : Tag) (c : ConstraintSet) (old new : D) (result : Result V DecodeError) →
    AgreesWithComponents components m → components.kind ≡ k → ReadsComponents R k t components eq old new result → ReadsValue R m eq t c old new result
as_constructed k R m components eq t c old new result agrees kind reads v n rest outer tagged of_type valid follow =
    let together = ((agrees.distinct_tags t).0 tagged).1 in
    let distinct = subst (λ j. AreDistinctIn j (all_components components)) kind together.2 in
    subst (λ rs. ReadsBack R old new rs rest outer (λ w. eq w v ≡ true) result)
    (sym (agrees.records v t c n ∙ ap (λ j. holding (head_of_kind j t (rows components) n) (component_records components v) ∷ []) kind))
    (reads v n rest outer (together.0, distinct) ((agrees.of_type v).0 of_type) ((agrees.valid R.accepts v).0 valid))
