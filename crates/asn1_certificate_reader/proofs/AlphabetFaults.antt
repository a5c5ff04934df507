-- PrintableStrings outside their alphabet, by the search for an element.
use Rattle.std.specs.Prelude.{◌≡◌, ℕ, false, true, List, Option, None, Some}
use Rattle.std.proofs.Common.{ap, refl, sym}
use Rattle.asn1_certificate_reader.proofs.NameFaults.{never}
use Rattle.asn1_certificate_reader.specs.Alphabets.{alphabet_fault, alphabet_fault_of}
use Rattle.asn1_der_items.specs.Elements.{Element, element_at}

-- octets in which no element is found
pub no_element : (octets : List ℕ) → ((e : Element) → element_at octets ≡ Some e → false ≡ true) → None ≡ alphabet_fault octets
no_element octets not = by (element_at octets) refl
  where
    by : (o : Option Element) → element_at octets ≡ o → None ≡ alphabet_fault octets
    by None is = sym (ap alphabet_fault_of is)
    by (Some e) is = absurd (never (not e is))
