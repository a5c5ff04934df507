-- Elements of DER (X.690, 8.1.1) that lie deeper than a call looks.
use Rattle.std.specs.Prelude.{◌≡◌, ◌<◌, ℕ, zero, suc, List, Some, length, true}
use Rattle.asn1_der_items.specs.Elements.{Element, element_at}

-- This holds of one of the elements that the bytes have one after another.
pub data HasElement (Holds : Element → Type 0) : List ℕ → Type 0 where
  first : (bytes : List ℕ) (e : Element) → element_at bytes ≡ Some e → Holds e → HasElement Holds bytes
  later : (bytes : List ℕ) (e : Element) → element_at bytes ≡ Some e → HasElement Holds e.rest → HasElement Holds bytes

-- The element is constructed, and so on this many levels further down, where there are contents octets.
abbrev pub HoldsDeeper : ℕ → Element → Type 0
HoldsDeeper zero e = (e.constructed ≡ true) × (0 < length e.contents)
HoldsDeeper (suc depth) e = (e.constructed ≡ true) × HasElement (HoldsDeeper depth) e.contents

-- The bytes nest deeper: octets lie inside more constructed elements than the depth.
abbrev pub NestsDeeper : ℕ → List ℕ → Type 0
NestsDeeper depth bytes = HasElement (HoldsDeeper depth) bytes
