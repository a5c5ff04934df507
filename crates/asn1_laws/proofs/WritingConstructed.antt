-- A SEQUENCE or SET type, whose meaning is that of its components.
use Rattle.std.proofs.Common.{◌≡◌, [], ◌∷◌, Result, ap, sym, ◌∙◌, subst}
use Rattle.asn1_tags.specs.declared.tags.Tag.{Tag}
use Rattle.asn1_components.specs.Components.{AgreesWithComponents, Components, Kind, component_records, head_of_kind, rows}
use Rattle.asn1_model.specs.ConstraintSets.{ConstraintSet}
use Rattle.asn1_model.specs.Meaning.{Meaning}
use Rattle.asn1_model.specs.Records.{Name, holding}
use Rattle.asn1_laws.specs.GivenTypes.{given}
use Rattle.asn1_laws.specs.Writing.{Writer, Writes}
use Rattle.asn1_laws.specs.WritingTypes.{WritesComponents, WritesValue}
use Rattle.asn1_laws.specs.declared.encode_error.EncodeError.{EncodeError}
use Rattle.asn1_laws.proofs.WritingSteps.{in_other_words}

-- what writes the components writes a value of the type
pub as_constructed : {E V A : Type 0} (k : Kind) (W : Writer E) (m : Meaning V) (components : Components V) (v : V) (t : Tag) (c : ConstraintSet) (n : Name) (old new : E) (result : Result A EncodeError) →
    AgreesWithComponents components m → components.kind ≡ k → WritesComponents W k t n components v old new result → WritesValue W (given t c m n) v old new result
as_constructed k W m components v t c n old new result agrees kind writes =
    subst (λ rs. Writes W old rs (m.IsOfType v) new result)
    (sym (agrees.records v t c n ∙ ap (λ j. holding (head_of_kind j t (rows components) n) (component_records components v) ∷ []) kind))
    (in_other_words W old new _ result ((agrees.of_type v).1) writes)
