-- The first fault in bytes that are no elements (X.690, 8.1.1), down to a depth.
use Rattle.std.specs.Prelude.{◌≡◌, ◌≢◌, ⊤, ℕ, zero, suc, ◌+◌, ◌-◌, List, [], None, Some, length, true}
use Rattle.asn1_der_items.specs.Elements.{Element, element_at}

-- The bytes are elements, one after another, of each of which this holds.
pub data AreEach (Holds : Element → Type 0) : List ℕ → Type 0 where
  none_left : AreEach Holds []
  one_more : (bytes : List ℕ) (e : Element) → element_at bytes ≡ Some e → Holds e → AreEach Holds e.rest → AreEach Holds bytes

-- what is inside an element that holds others is elements, and so on down to this depth
abbrev pub HoldsElements : ℕ → Element → Type 0
HoldsElements zero e = ⊤
HoldsElements (suc depth) e = e.constructed ≡ true → AreEach (HoldsElements depth) e.contents

-- the bytes are elements, and so is what is inside them, down to this depth
abbrev pub AreElementsDownTo : ℕ → List ℕ → Type 0
AreElementsDownTo depth bytes = AreEach (HoldsElements depth) bytes

-- At this position an element is due, and none begins; and all that is before it, down to this depth, are elements: it is the first byte,
-- or after the element with which the bytes begin, or inside that.
pub data IsFirstFault : ℕ → List ℕ → ℕ → Type 0 where
  here : (depth : ℕ) (bytes : List ℕ) → bytes ≢ [] → element_at bytes ≡ None → IsFirstFault depth bytes 0
  behind : (depth : ℕ) (bytes : List ℕ) (e : Element) (position : ℕ) → element_at bytes ≡ Some e → HoldsElements depth e →
      IsFirstFault depth e.rest position → IsFirstFault depth bytes (length bytes - length e.rest + position)
  inside : (depth : ℕ) (bytes : List ℕ) (e : Element) (position : ℕ) → element_at bytes ≡ Some e → e.constructed ≡ true →
      IsFirstFault depth e.contents position → IsFirstFault (suc depth) bytes (length bytes - length e.rest - length e.contents + position)

-- The element holds others, and this is the first position in its contents octets.
pub record IsFaultInside (depth : ℕ) (e : Element) (position : ℕ) : Type 0 where
  pub below : ℕ
  pub deeper : depth ≡ suc below
  pub constructed : e.constructed ≡ true
  pub fault : IsFirstFault below e.contents position
