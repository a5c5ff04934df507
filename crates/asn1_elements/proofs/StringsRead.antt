-- Strings of octets, as their contents octets are.
use Rattle.std.proofs.Common.{◌≡◌, ◌∙◌, ◌<◌, ℕ, List, get_or, Fits, w8, refl, subst, sym, arith}
use Rattle.std.proofs.lemmas.List.Elements.{All-from_get_or}
use Rattle.asn1_der_items.specs.Contents.{AreTeletexOctets, AreUnits, HasContents}
use Rattle.asn1_elements.specs.Decoder.{IsReadOfOctets}
use Rattle.asn1_elements.specs.Strings.{IsReadOfString}
use Rattle.asn1_model.specs.Records.{Content}
use Rattle.asn1_types.specs.AnyStrings.{HasSpelling, IsStringOf, content_kind_of, content_of_string, content_read, octet_kind}
use Rattle.asn1_types.specs.declared.any_string.AnyString.{AnyString}
use Rattle.asn1_types.specs.declared.any_string.StringKind.{StringKind}
use Rattle.asn1_types.specs.declared.any_string.OctetKind.{OctetKind}
use Rattle.asn1_types.specs.declared.any_string.OctetKind.TheVariants.{OctetString, Utf8, Visible, General, Graphic, Ia5, Printable, Numeric}

pub octets_are : (k : OctetKind) (octets : List ℕ) → AreUnits (octet_kind k) octets octets
octets_are OctetString octets = refl
octets_are Utf8 octets = refl
octets_are Visible octets = refl
octets_are General octets = refl
octets_are Graphic octets = refl
octets_are Ia5 octets = refl
octets_are Printable octets = refl
octets_are Numeric octets = refl

pub teletex_octets_are : (octets : List ℕ) → ((i : ℕ) → Fits w8 (get_or octets i 0)) → AreTeletexOctets octets octets
teletex_octets_are octets fits = record { are = refl; fit = All-from_get_or (λ unit. unit < 256) octets 0 (λ i within. omega (arith, fits i)) }

-- a string of a kind was read
pub read_of : (kind own : StringKind) (string : AnyString) (x : Content) (octets : List ℕ) → kind ≡ own → IsStringOf (content_kind_of own) x → HasContents x octets → content_read own x ≡ content_of_string string → IsReadOfString kind string octets
read_of kind own string x octets same is has read = subst (λ k. IsReadOfString k string octets) (sym same) (record { content = x; is_string = is; has = has; read_as = read })

-- it is made of units that spell those that it has
pub spelled_so : {U : Type 0} (content : List U → Content) (units_read : List U → List U) (kind own : StringKind) (string : AnyString) (octets : List ℕ) (units : List U) → kind ≡ own → IsReadOfString kind string octets → content_of_string string ≡ content units →
    ((x : Content) (list : List U) → IsStringOf (content_kind_of own) x → content_read own x ≡ content list → HasSpelling content units_read x list) → IsReadOfOctets content (λ list. units ≡ units_read list) octets
spelled_so content units_read kind own string octets units same read is spellings =
    let r = subst (λ k. IsReadOfString k string octets) same read in
    let s = spellings r.content units r.is_string (r.read_as ∙ is) in
    record { spelling = s.spelled; is_of = sym s.read_as; has = subst (λ x. HasContents x octets) (sym s.are) r.has }
