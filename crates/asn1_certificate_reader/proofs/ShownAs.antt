-- The report of octets by a type, by the value that they were read as.
use Rattle.std.proofs.Common.{◌≡◌, ℕ, Bool, List, Option, Vec, subst}
use Rattle.std.specs.declared.alloc.Global.{Global}
use Rattle.asn1_certificate_reader.specs.ExtensionValues.{IsShownByRead, IsShownAs}
use Rattle.asn1_certificate_reader.specs.Inside.{AreReadAs}
use Rattle.asn1_certificate_text.specs.declared.extension.ExtensionValue.{ExtensionValue}
use Rattle.asn1_model.specs.Meaning.{Meaning}
use Rattle.asn1_rules.specs.Rules.{Format}

pub shown_as : {V : Type 0} (F : Format (Vec ℕ Global)) (m : Meaning V) (eq : V → V → Bool) (IsShown : V → ExtensionValue → Type 0) (octets : List ℕ) (read value : Option V) (shown : ExtensionValue) →
    AreReadAs F m eq octets read → read ≡ value → IsShownByRead IsShown octets value shown → IsShownAs F m eq IsShown octets shown
shown_as F m eq IsShown octets read value shown are same is = record { value = value; are_read_as = subst (AreReadAs F m eq octets) same are; is_shown = is }
