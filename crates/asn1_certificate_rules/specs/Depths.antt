-- Elements that lie deeper than a walk looks.
use Rattle.std.specs.Prelude.{◌≡◌, ℕ, zero, suc, ◌+◌, ◌-◌, ◌<◌, List, Some, length, true}
use Rattle.asn1_certificate_rules.specs.Notation.{opens, part_behind, part_inside}
use Rattle.asn1_certificate_rules.specs.declared.notation.Part.{Part}
use Rattle.asn1_der_items.specs.Elements.{Element, element_at}

-- how many octets of an element are before its contents octets
abbrev pub header_of : List ℕ → Element → ℕ
header_of bytes e = length bytes - length e.rest - length e.contents

-- In the bytes, which have this part of a certificate first, contents octets that hold elements begin at this position, and lie inside
-- more elements than the depth: in the element with which the bytes begin, at depth 0; or behind it, or inside it.
pub data LiesDeeper : ℕ → Part → List ℕ → ℕ → Type 0 where
  at_once : (part : Part) (bytes : List ℕ) (e : Element) → element_at bytes ≡ Some e → opens part e ≡ true → 0 < length e.contents →
      LiesDeeper 0 part bytes (header_of bytes e)
  later : (depth : ℕ) (part : Part) (bytes : List ℕ) (e : Element) (position : ℕ) → element_at bytes ≡ Some e →
      LiesDeeper depth (part_behind part e) e.rest position → LiesDeeper depth part bytes (length bytes - length e.rest + position)
  below : (depth : ℕ) (part : Part) (bytes : List ℕ) (e : Element) (position : ℕ) → element_at bytes ≡ Some e → opens part e ≡ true →
      LiesDeeper depth (part_inside part e) e.contents position → LiesDeeper (suc depth) part bytes (header_of bytes e + position)

-- The same inside an element at this place, at this position of its contents octets.
abbrev pub IsDeeperInside : ℕ → Part → Element → ℕ → Type 0
IsDeeperInside zero part e position = (opens part e ≡ true) × (0 < length e.contents) × (position ≡ 0)
IsDeeperInside (suc depth) part e position = (opens part e ≡ true) × LiesDeeper depth (part_inside part e) e.contents position
