-- The report of octets by a type of strings, by the characters that were found.
use Rattle.std.proofs.Common.{◌≡◌, ℕ, Bool, List, None, Option, Some, Vec, subst}
use Rattle.std.specs.declared.alloc.Global.{Global}
use Rattle.asn1_certificate_reader.specs.Names.{AreCharactersRead, IsShownBy, IsTextOf}
use Rattle.asn1_certificate_text.specs.declared.name.AttributeValue.{AttributeValue}
use Rattle.asn1_model.specs.Meaning.{Meaning}
use Rattle.asn1_rules.specs.Rules.{Format}

module _ (F : Format (Vec ℕ Global)) {V : Type 0} (m : Meaning V) (eq : V → V → Bool) (text : V → Option (List ℕ)) (octets : List ℕ) (IsElse : AttributeValue → Type 0) (shown : AttributeValue) where
  -- characters were found
  pub by_characters : (found : Option (List ℕ)) (cs : List ℕ) → AreCharactersRead F m eq text octets found → found ≡ Some cs → IsTextOf cs shown → IsShownBy F m eq text IsElse octets shown
  by_characters found cs read is of = record { found = Some cs; characters = subst (AreCharactersRead F m eq text octets) is read; is_shown = of }

  -- none were found
  pub by_none : (found : Option (List ℕ)) → AreCharactersRead F m eq text octets found → found ≡ None → IsElse shown → IsShownBy F m eq text IsElse octets shown
  by_none found read is other = record { found = None; characters = subst (AreCharactersRead F m eq text octets) is read; is_shown = other }
