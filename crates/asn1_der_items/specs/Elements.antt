-- An element (X.690, 8.1.1): identifier octets, length octets and contents octets.
use Rattle.std.specs.Prelude.{◌≡◌, ℕ, Bool, Result, MatchResult, Option, None, Some, List, [], ◌∷◌, ◌++◌, length, nat_le, take, drop, if◌then◌else◌}
use Rattle.std.specs.Int.Digits.{AllBelowBase}
use Rattle.std.specs.Option.{option_and_then}
use Rattle.asn1_tags.specs.declared.tags.Tag.{Tag}
use Rattle.asn1_der_items.specs.Base128.{Front}
use Rattle.asn1_der_items.specs.Identifiers.{Identified, IsIdentifier, identifier_at}
use Rattle.asn1_der_items.specs.Lengths.{IsLength, length_at}
use Rattle.asn1_der_items.specs.declared.elements.Element.{Element as Found}
use Rattle.asn1_der_items.specs.declared.error.ElementError.{ElementError}
use Rattle.asn1_der_items.specs.declared.error.ElementError.TheVariants.{Memory}
use Rattle.asn1_items.specs.Numbers.{Appended}

-- The bytes are one element of this tag and form, with these contents octets.
pub record IsElement (t : Tag) (constructed : Bool) (contents bytes : List ℕ) : Type 0 where
  pub identifier : List ℕ
  pub size : List ℕ
  pub is_identifier : IsIdentifier t constructed identifier
  pub is_size : IsLength (length contents) size
  pub are : bytes ≡ identifier ++ (size ++ contents)

-- The bytes are the identifier octets of an element, and an octet in the place of its length.
pub record IsBegun (t : Tag) (constructed : Bool) (bytes : List ℕ) : Type 0 where
  pub identifier : List ℕ
  pub room : ℕ
  pub is_identifier : IsIdentifier t constructed identifier
  pub are : bytes ≡ identifier ++ room ∷ []

-- an element that was read in front of some bytes, and the bytes after it
pub record Element : Type 0 where
  pub tag : Tag
  pub constructed : Bool
  pub contents : List ℕ
  pub rest : List ℕ

-- the same of an element that the program found
abbrev pub element_of : Found → Element
element_of e = record { tag = e.tag; constructed = e.constructed; contents = e.contents.now; rest = e.rest.now }

-- the element of this identifier, after its length
abbrev pub of_length : Identified → Front → Option Element
of_length i f = if nat_le f.number (length f.rest)
    then Some (record { tag = i.tag; constructed = i.constructed; contents = take f.number f.rest; rest = drop f.number f.rest })
    else None

-- the element of this identifier
abbrev pub of_identifier : Identified → Option Element
of_identifier i = option_and_then (of_length i) (length_at i.rest)

-- the element with which the bytes begin
abbrev pub element_at : List ℕ → Option Element
element_at bytes = option_and_then of_identifier (identifier_at bytes)

-- The bytes begin with the octets of this element (8.1.1), and what is left follows them.
pub record BeginWithElement (e : Element) (bytes : List ℕ) : Type 0 where
  pub own : List ℕ
  pub element : IsElement e.tag e.constructed e.contents own
  pub are : bytes ≡ own ++ e.rest

-- The bytes of an element are found as that element, whatever follows.
abbrev pub ElementsAreFound : Type 0
ElementsAreFound =
    (t : Tag) (constructed : Bool) (contents own back : List ℕ) → IsElement t constructed contents own →
    element_at (own ++ back) ≡ Some (record { tag = t; constructed = constructed; contents = contents; rest = back })

-- Octets begin with the octets of the element that is found in them.
abbrev pub FoundElementsAreElements : Type 0
FoundElementsAreElements =
    (bytes : List ℕ) (e : Element) → AllBelowBase 256 bytes → element_at bytes ≡ Some e → BeginWithElement e bytes

-- A call that ends an element. If the element was begun, and its contents octets are the bytes from this index on, the element is
-- appended to the bytes before it.
abbrev pub EndsElement : {V : Type 0} → ℕ → List ℕ → List ℕ → Result V ElementError → Type 0
EndsElement start old new result =
    (t : Tag) (constructed : Bool) (before front contents : List ℕ) → IsBegun t constructed front →
    old ≡ (before ++ front) ++ contents → start ≡ length (before ++ front) →
    MatchResult result (λ _. Appended (IsElement t constructed contents) before new) (λ e. e ≡ Memory)
