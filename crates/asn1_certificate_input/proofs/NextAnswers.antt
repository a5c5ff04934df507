-- The output for certificates, one by one.
use Rattle.std.proofs.Common.{◌≡◌, ◌≢◌, ◌<◌, ◌+◌, ℕ, Bool, List, [], ◌∷◌, ◌++◌, Option, ap, get_or, length, subst, sym, take, true, ◌∙◌}
use Rattle.std.proofs.lemmas.List.{take_more}
use Rattle.asn1_certificate_input.specs.Answers.{AreAnswers, number_of, refusal, refused as is_refused, shown as is_shown, warning_messages}
use Rattle.asn1_certificate_input.specs.Refused.{IsRefusalOf}
use Rattle.asn1_certificate_input.specs.Shown.{IsShownOf, separator}
use Rattle.asn1_certificate_input.specs.declared.certificate.Warnings.{Warnings}
use Rattle.asn1_certificate_input.specs.declared.error.InputError.{InputError}
use Rattle.asn1_certificate_input.specs.declared.error.InputError.TheVariants.{Memory}
use Rattle.asn1_certificate_input.specs.declared.message.Message.{Message}
use Rattle.asn1_certificate_input.specs.declared.options.Options.{Options}
use Rattle.asn1_certificate_text.specs.declared.pem.PemCertificate.{PemCertificate}

-- the certificates up to one more
pub take_next : (xs : List PemCertificate) (i : ℕ) (x : PemCertificate) → i < length xs → x ≡ get_or xs i x → take (i + 1) xs ≡ take i xs ++ x ∷ []
take_next xs i x below is = take_more xs i x below ∙ ap (λ z. take i xs ++ z ∷ []) (sym is)

module _ (options : Options) (count : ℕ) (found : List PemCertificate) (next : PemCertificate) (number : Option ℕ) (numbered : number ≡ number_of (length found) count) where
  pub next_shown : (before bytes new : List ℕ) (messages more : List Message) (warnings : Warnings) (refused now : Bool) →
      AreAnswers options count found before messages refused → IsShownOf options next bytes warnings → new ≡ before ++ (separator options before ++ bytes) →
      more ≡ messages ++ warning_messages number warnings → now ≡ refused → AreAnswers options count (found ++ next ∷ []) new more now
  next_shown before bytes new messages more warnings refused now answers shows added warned same =
      subst (λ l. AreAnswers options count (found ++ next ∷ []) l more now) (sym added)
      (subst (λ l. AreAnswers options count (found ++ next ∷ []) (before ++ (separator options before ++ bytes)) l now) (sym (warned ∙ ap (λ n. messages ++ warning_messages n warnings) numbered))
      (subst (λ b. AreAnswers options count (found ++ next ∷ []) (before ++ (separator options before ++ bytes)) (messages ++ warning_messages (number_of (length found) count) warnings) b) (sym same)
      (is_shown found next before bytes messages warnings refused answers shows)))

  pub next_refused : (before new : List ℕ) (messages more : List Message) (error : InputError) (refused now : Bool) → AreAnswers options count found before messages refused →
      IsRefusalOf options next error → new ≡ before → more ≡ messages ++ refusal number error ∷ [] → now ≡ true → error ≢ Memory →
      AreAnswers options count (found ++ next ∷ []) new more now
  next_refused before new messages more error refused now answers reason same added told memory =
      subst (λ l. AreAnswers options count (found ++ next ∷ []) l more now) (sym same)
      (subst (λ l. AreAnswers options count (found ++ next ∷ []) before l now) (sym (added ∙ ap (λ n. messages ++ refusal n error ∷ []) numbered))
      (subst (λ b. AreAnswers options count (found ++ next ∷ []) before (messages ++ refusal (number_of (length found) count) error ∷ []) b) (sym told)
      (is_refused found next before messages refused error answers reason memory)))
