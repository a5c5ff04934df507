-- Elements of BER, and the same elements with definite lengths of the fewest octets (X.690, 8.1 and 10.1).
use Rattle.std.specs.Prelude.{◌≡◌, ◌≢◌, ℕ, Bool, false, true, None, Some, List, [], ◌∷◌, ◌++◌, length}
use Rattle.asn1_ber_items.specs.Headers.{Header, end_of_contents, header_at}
use Rattle.asn1_der_items.specs.Elements.{IsElement}
use Rattle.asn1_der_items.specs.Series.{is_one_element}
use Rattle.asn1_tags.specs.declared.tags.Tag.{Tag}

-- The bytes begin with the header of an element of this form.
pub record BeginWith (constructed : Bool) (h : Header) (bytes : List ℕ) : Type 0 where
  pub at : header_at bytes ≡ Some h
  pub is_element : h.tag ≢ end_of_contents
  pub form : h.constructed ≡ constructed

-- The length is definite: there are as many contents octets as it says, and other bytes follow.
pub record IsDefinite (h : Header) (contents back : List ℕ) : Type 0 where
  pub size : h.size ≡ Some (length contents)
  pub are : h.rest ≡ contents ++ back

-- The bytes begin with elements of BER. The second list has the same elements, each with a definite length of the fewest octets, and
-- the third follows them.
pub data Spells : List ℕ → List ℕ → List ℕ → Type 0 where
  -- no element
  nothing : (bytes : List ℕ) → Spells bytes [] bytes
  -- a primitive element, with the same contents octets, and others after it
  primitive : (bytes contents own back others rest : List ℕ) (h : Header) → BeginWith false h bytes → IsDefinite h contents back →
      IsElement h.tag false contents own → Spells back others rest → Spells bytes (own ++ others) rest
  -- a constructed element of a definite length: its contents octets are elements
  definite : (bytes contents inside own back others rest : List ℕ) (h : Header) → BeginWith true h bytes → IsDefinite h contents back →
      Spells contents inside [] → IsElement h.tag true inside own → Spells back others rest → Spells bytes (own ++ others) rest
  -- a constructed element of an indefinite length: elements, and two zeros after them
  indefinite : (bytes inside own back others rest : List ℕ) (h : Header) → BeginWith true h bytes → h.size ≡ None →
      Spells h.rest inside (0 ∷ 0 ∷ back) → IsElement h.tag true inside own → Spells back others rest → Spells bytes (own ++ others) rest

-- The bytes begin with one element of BER. This is the same element with definite lengths of the fewest octets, and the rest follows it.
pub record SpellsOne (bytes normal rest : List ℕ) : Type 0 where
  pub spells : Spells bytes normal rest
  pub one : is_one_element normal ≡ true

-- An element has one normal form, and ends at one byte.
abbrev pub NormalFormsAreUnique : Type 0
NormalFormsAreUnique =
    (bytes normal rest other back : List ℕ) → SpellsOne bytes normal rest → SpellsOne bytes other back → (normal ≡ other) × (rest ≡ back)

-- Trailing bytes change nothing of the elements with which bytes begin.
abbrev pub TrailingBytesStay : Type 0
TrailingBytesStay = (bytes normal rest more : List ℕ) → Spells bytes normal rest → Spells (bytes ++ more) normal (rest ++ more)

-- Elements that follow others follow them in the normal form too.
abbrev pub NormalFormsFollow : Type 0
NormalFormsFollow = (first own second others rest : List ℕ) → Spells first own [] → Spells second others rest → Spells (first ++ second) (own ++ others) rest

-- The normal form of elements is its own normal form.
abbrev pub NormalFormsStay : Type 0
NormalFormsStay = (bytes normal rest : List ℕ) → Spells bytes normal rest → Spells normal normal []

-- An element of DER is its own normal form: a primitive one, and a constructed one around elements of DER.
abbrev pub DerIsNormal : Type 0
DerIsNormal =
    (t : Tag) (contents own : List ℕ) → t ≢ end_of_contents →
    (IsElement t false contents own → SpellsOne own own []) × (IsElement t true contents own → Spells contents contents [] → SpellsOne own own [])
