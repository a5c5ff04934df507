-- Pieces of a string are their own normal form.
use Rattle.std.proofs.Common.{◌≡◌, ◌≢◌, ℕ, true, false, List, [], ◌∷◌, ap, arith}
use Rattle.asn1_tags.specs.declared.tags.Tag.{Tag}
use Rattle.asn1_der_items.specs.Elements.{IsElement}
use Rattle.asn1_ber_items.specs.Headers.{end_of_contents}
use Rattle.asn1_ber_items.specs.Pieces.{AreBitPieces, AreOctetPieces, BIT_STRING, OCTET_STRING, bit_pieces_first, bit_pieces_last, bits_first, bits_last, no_bits, no_octets, octet_pieces_first, octets_first}
use Rattle.asn1_ber_items.specs.Spellings.{Spells, nothing}
use Rattle.asn1_ber_items.proofs.NormalForms.{der_constructed, der_primitive, one_alone, spells-in_front}

-- elements of their tags
octet_piece : OCTET_STRING ≢ end_of_contents
octet_piece same = let wrong : 4 ≡ 0 = ap (λ (t : Tag). t.value) same in omega (arith, wrong)

bit_piece : BIT_STRING ≢ end_of_contents
bit_piece same = let wrong : 3 ≡ 0 = ap (λ (t : Tag). t.value) same in omega (arith, wrong)

primitive_normal : (t : Tag) (contents own : List ℕ) → t ≢ end_of_contents → IsElement t false contents own → Spells own own []
primitive_normal t contents own some element = (one_alone own own (der_primitive t contents own [] some element)).spells

constructed_normal : (t : Tag) (inside own : List ℕ) → t ≢ end_of_contents → IsElement t true inside own → Spells inside inside [] → Spells own own []
constructed_normal t inside own some element inner = (one_alone own own (der_constructed t inside own inside own [] some element inner element)).spells

pub octet_pieces_normal : (contents octets : List ℕ) → AreOctetPieces contents octets → Spells contents contents []
octet_pieces_normal _ _ no_octets = nothing []
octet_pieces_normal _ _ (octets_first octets own others later element pieces) =
    spells-in_front own own others others [] (primitive_normal OCTET_STRING octets own octet_piece element) (octet_pieces_normal others later pieces)
octet_pieces_normal _ _ (octet_pieces_first inside octets own others later element held pieces) =
    spells-in_front own own others others [] (constructed_normal OCTET_STRING inside own octet_piece element (octet_pieces_normal inside octets held)) (octet_pieces_normal others later pieces)

pub bit_pieces_normal : (contents octets : List ℕ) (unused : ℕ) → AreBitPieces contents unused octets → Spells contents contents []
bit_pieces_normal _ _ _ no_bits = nothing []
bit_pieces_normal _ _ _ (bits_last unused octets own element have) = primitive_normal BIT_STRING (unused ∷ octets) own bit_piece element
bit_pieces_normal _ _ _ (bit_pieces_last unused inside octets own element held) = constructed_normal BIT_STRING inside own bit_piece element (bit_pieces_normal inside octets unused held)
bit_pieces_normal _ _ _ (bits_first unused octets own others later element pieces) =
    spells-in_front own own others others [] (primitive_normal BIT_STRING (0 ∷ octets) own bit_piece element) (bit_pieces_normal others later unused pieces)
bit_pieces_normal _ _ _ (bit_pieces_first unused inside octets own others later element held pieces) =
    spells-in_front own own others others [] (constructed_normal BIT_STRING inside own bit_piece element (bit_pieces_normal inside octets 0 held)) (bit_pieces_normal others later unused pieces)
