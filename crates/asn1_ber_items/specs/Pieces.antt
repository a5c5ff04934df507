-- Strings that are constructed of pieces (X.690, 8.6.4, 8.7.3 and 8.23), of which the lengths are definite and have the fewest octets.
use Rattle.std.specs.Prelude.{◌≡◌, ℕ, ◌<◌, false, true, List, [], ◌∷◌, ◌++◌}
use Rattle.asn1_tags.specs.declared.classes.Class.TheVariants.{Universal}
use Rattle.asn1_tags.specs.declared.tags.Tag.{Tag}
use Rattle.asn1_der_items.specs.Elements.{IsElement}

-- the tag of each piece of a string of octets (8.7.3), whatever the tag of the string
abbrev pub OCTET_STRING : Tag
OCTET_STRING = record { class = Universal; value = 4 }

-- the tag of each piece of a bit string (8.6.4)
abbrev pub BIT_STRING : Tag
BIT_STRING = record { class = Universal; value = 3 }

-- The contents octets are pieces of a string, and these are the octets of the string.
pub data AreOctetPieces : List ℕ → List ℕ → Type 0 where
  -- no piece
  no_octets : AreOctetPieces [] []
  -- a primitive piece, and others after it
  octets_first : (octets own others later : List ℕ) → IsElement OCTET_STRING false octets own →
      AreOctetPieces others later → AreOctetPieces (own ++ others) (octets ++ later)
  -- a piece that is constructed of pieces, and others after it
  octet_pieces_first : (inside octets own others later : List ℕ) → IsElement OCTET_STRING true inside own → AreOctetPieces inside octets →
      AreOctetPieces others later → AreOctetPieces (own ++ others) (octets ++ later)

-- So many bits of the last of the octets are unused: at most seven (8.6.2.2), and none without an octet (8.6.2.3).
pub record HaveUnused (unused : ℕ) (octets : List ℕ) : Type 0 where
  pub below_eight : unused < 8
  pub without : octets ≡ [] → unused ≡ 0

-- The contents octets are pieces of a bit string. These are its octets, and this many bits of the last of them are unused. Each piece
-- but the last has no unused bits (8.6.4).
pub data AreBitPieces : List ℕ → ℕ → List ℕ → Type 0 where
  -- no piece
  no_bits : AreBitPieces [] 0 []
  -- a primitive piece alone
  bits_last : (unused : ℕ) (octets own : List ℕ) → IsElement BIT_STRING false (unused ∷ octets) own → HaveUnused unused octets →
      AreBitPieces own unused octets
  -- a piece alone that is constructed of pieces
  bit_pieces_last : (unused : ℕ) (inside octets own : List ℕ) → IsElement BIT_STRING true inside own → AreBitPieces inside unused octets →
      AreBitPieces own unused octets
  -- a primitive piece, and others after it
  bits_first : (unused : ℕ) (octets own others later : List ℕ) → IsElement BIT_STRING false (0 ∷ octets) own →
      AreBitPieces others unused later → AreBitPieces (own ++ others) unused (octets ++ later)
  -- a piece that is constructed of pieces, and others after it
  bit_pieces_first : (unused : ℕ) (inside octets own others later : List ℕ) → IsElement BIT_STRING true inside own → AreBitPieces inside 0 octets →
      AreBitPieces others unused later → AreBitPieces (own ++ others) unused (octets ++ later)

-- The second bytes are what the primitive form of the bit string has as contents octets, of which the first are pieces.
pub record ArePiecesOfBits (contents bytes : List ℕ) : Type 0 where
  pub unused : ℕ
  pub octets : List ℕ
  pub are : bytes ≡ unused ∷ octets
  pub pieces : AreBitPieces contents unused octets
