-- A component with a default, written by whether it equals that.
use Rattle.std.proofs.Common.{◌≡◌, Bool, true, false, Result, None, Some, sym, ◌∙◌, subst}
use Rattle.std.specs.Prelude.{⊤}
use Rattle.std.specs.Result.{IsErrAnd}
use Rattle.asn1_model.specs.Composites.{default_records, option_records}
use Rattle.asn1_model.specs.Records.{in_root}
use Rattle.asn1_model.specs.TaggedTypes.{TaggedType}
use Rattle.asn1_laws.proofs.WritingSteps.{exits, in_other_words, refused}
use Rattle.asn1_laws.specs.declared.encode_error.EncodeError.{EncodeError}
use Rattle.asn1_laws.specs.Writing.{IsOutOfMemory, Writer, Writes}
use Rattle.asn1_laws.specs.WritingTypes.{WritesDefault}

module _ {E V : Type 0} (W : Writer E) (type : TaggedType V) (IsDefault : V → Type 0) (eq : V → V → Bool) (v : V) (a b : E) {A : Type 0} (result : Result A EncodeError) where
  -- memory ran out before it was known
  pub default_refused : {e : EncodeError} → IsErrAnd result (λ y. y ≡ e) → IsOutOfMemory W a b e → WritesDefault W type IsDefault eq v a b result
  default_refused is out equal agree = exits W _ _ _ _ result is (refused W _ out)

  -- what is written where it equals the default, or does not
  default_is : (found equal : Bool) → found ≡ equal → Writes W a (default_records in_root found type.tag (type.records v)) (found ≡ false → type.IsOfType v) b result →
      Writes W a (default_records in_root equal type.tag (type.records v)) (equal ≡ false → type.IsOfType v) b result
  default_is found equal same wrote =
      subst (λ x. Writes W a (default_records in_root x type.tag (type.records v)) (x ≡ false → type.IsOfType v) b result) same wrote

  -- it equals the default
  pub default_absent : (found : Bool) → (default_value : V) × IsDefault default_value × (eq v default_value ≡ found) → found ≡ true →
      Writes W a (option_records in_root type.tag None) ⊤ b result → WritesDefault W type IsDefault eq v a b result
  default_absent found known is wrote equal agree =
      default_is true equal (sym is ∙ sym known.2 ∙ agree known.0 known.1) (in_other_words W a b _ result (λ _ wrong. cc) wrote)

  -- it does not
  pub default_there : (found : Bool) → (default_value : V) × IsDefault default_value × (eq v default_value ≡ found) → found ≡ false →
      Writes W a (option_records in_root type.tag (Some (type.records v))) (type.IsOfType v) b result → WritesDefault W type IsDefault eq v a b result
  default_there found known is wrote equal agree =
      default_is false equal (sym is ∙ sym known.2 ∙ agree known.0 known.1) (in_other_words W a b _ result (λ of_type _. of_type) wrote)
