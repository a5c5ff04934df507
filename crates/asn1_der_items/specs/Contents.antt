-- The contents octets of a content (X.690, 8.2 to 8.4, 8.6 to 8.8, 8.19 and 8.23, with 11.1 and 11.2.1), for each kind of content.
use Rattle.std.specs.Prelude.{◌≡◌, ℕ, ◌<◌, ◌≤◌, ◌^◌, ⊤, List, [], ◌∷◌, All, Contains, FitsSigned, if◌then◌else◌}
use Rattle.std.specs.Int.{w64}
use Rattle.asn1_items.specs.Bits.{AreBits}
use Rattle.asn1_items.specs.Numbers.{AreTwos}
use Rattle.asn1_der_items.specs.Arcs.{AreArcs, HaveNoOctets}
use Rattle.asn1_der_items.specs.Integers.{IsInteger}
use Rattle.asn1_model.specs.Records.{Content, StringKind, null, boolean, number, discriminant, arcs, bits, units, teletex, bmp}

-- The octets are these units of a TeletexString, of which each is one octet.
pub record AreTeletexOctets (list octets : List ℕ) : Type 0 where
  pub are : octets ≡ list
  pub fit : All (λ unit. unit < 256) list

-- The octets are these units of a string: two octets for each of a BMPString, and one for each of the other kinds (8.23).
abbrev pub AreUnits : StringKind → List ℕ → List ℕ → Type 0
AreUnits teletex list octets = AreTeletexOctets list octets
AreUnits bmp list octets = AreTwos list octets
AreUnits _ list octets = octets ≡ list

-- The content has these contents octets. An item of an ENUMERATED type is its number.
abbrev pub HasContents : Content → List ℕ → Type 0
HasContents null octets = octets ≡ []
HasContents (boolean b) octets = octets ≡ (if b then 255 else 0) ∷ []
HasContents (number z) octets = IsInteger z octets
HasContents (discriminant labels z) octets = IsInteger z octets × FitsSigned w64 z
HasContents (arcs list) octets = AreArcs list octets
HasContents (bits list) octets = AreBits list octets
HasContents (units kind list) octets = AreUnits kind list octets

-- Some unit is above 255.
pub record SomeIsWide (list : List ℕ) : Type 0 where
  pub unit : ℕ
  pub among : Contains list unit
  pub above : 256 ≤ unit

-- The content has no contents octets: arcs that have none, and a TeletexString with a unit above 255.
abbrev pub HasNoContents : Content → Type 0
HasNoContents (arcs list) = HaveNoOctets list
HasNoContents (units teletex list) = SomeIsWide list
HasNoContents _ = ⊥

-- A content has the contents octets of another: what are octets of it are octets of the other, and where it has none, neither has
-- the other.
pub record HasOctetsOf (x y : Content) : Type 0 where
  pub octets : (own : List ℕ) → HasContents x own → HasContents y own
  pub none : HasNoContents x → HasNoContents y

-- The units of a string of this kind are within the range of the type that holds them: 8 bits, of a BMPString 16, and of a TeletexString
-- any, of which those above 255 are rejected.
abbrev pub AreUnitsInRange : StringKind → List ℕ → Type 0
AreUnitsInRange teletex list = ⊤
AreUnitsInRange bmp list = All (λ unit. unit < 2 ^ 16) list
AreUnitsInRange _ list = All (λ unit. unit < 256) list

-- The numbers of a content are within the ranges of the types that hold them: of an ENUMERATED value 64 bits, and of an arc 32.
abbrev pub IsContentInRange : Content → Type 0
IsContentInRange (discriminant labels z) = FitsSigned w64 z
IsContentInRange (arcs list) = All (λ arc. arc < 2 ^ 32) list
IsContentInRange (units kind list) = AreUnitsInRange kind list
IsContentInRange _ = ⊤
