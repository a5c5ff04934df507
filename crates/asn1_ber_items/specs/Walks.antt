-- The walk through elements of BER: the elements that are open, and what is to come.
use Rattle.std.specs.Prelude.{◌≡◌, ◌≢◌, ⊤, ℕ, suc, ◌+◌, ◌-◌, ◌*◌, ◌<◌, Some, true, List, [], ◌∷◌, ◌++◌, length, take, drop, if◌then◌else◌}
use Rattle.asn1_ber_items.specs.Headers.{end_of_contents, header_at, header_of}
use Rattle.asn1_ber_items.specs.Segments.{IsCounted, joined, segments_of, written_in}
use Rattle.asn1_ber_items.specs.Spellings.{Spells, SpellsOne}
use Rattle.asn1_ber_items.specs.declared.header.Header.{Header as HeaderRead}
use Rattle.asn1_ber_items.specs.declared.open_element.Extent.{Extent}
use Rattle.asn1_ber_items.specs.declared.open_element.Extent.TheVariants.{Definite, Indefinite}
use Rattle.asn1_ber_items.specs.declared.open_element.OpenElement.{OpenElement}
use Rattle.asn1_ber_items.specs.declared.walk.Walk.{Walk}
use Rattle.asn1_der_items.specs.Cuts.{IsMissing}
use Rattle.asn1_der_items.specs.Elements.{IsBegun, IsElement}
use Rattle.asn1_der_items.specs.Lengths.{IsLength}
use Rattle.asn1_items.specs.declared.error.ItemError.{ItemError}
use Rattle.asn1_items.specs.declared.error.ItemError.TheVariants.{Memory}
use Rattle.asn1_tags.specs.declared.tags.Tag.{Tag}

-- The bytes left are elements, which make these bytes of those that were written.
pub record AreLast (normal left written : List ℕ) : Type 0 where
  pub others : List ℕ
  pub spell : Spells left others []
  pub are : normal ≡ written ++ others

-- With nothing open the first element is to come, if nothing was written; else it was written, and the rest is left.
abbrev pub IsFront : List ℕ → List ℕ → List ℕ → List ℕ → Type 0
IsFront normal rest left [] = SpellsOne left normal rest
IsFront normal rest left (o ∷ written) = (normal ≡ o ∷ written) × (rest ≡ left)

-- The answer of a walk: the normal form of all the bytes; or that of the first element, and the rest.
pub data Outcome : Type 0 where
  of_all : (normal : List ℕ) → Outcome
  of_first : (normal rest : List ℕ) → Outcome

-- what is to come where nothing is open
abbrev pub Remains : Outcome → List ℕ → List ℕ → Type 0
Remains (of_all normal) left written = AreLast normal left written
Remains (of_first normal rest) left written = IsFront normal rest left written

-- nothing more is to come: nothing is open, and nothing is left, or something was written
abbrev pub IsOver : Outcome → List OpenElement → List ℕ → List ℕ → Type 0
IsOver (of_all normal) es left written = (es ≡ []) × (left ≡ [])
IsOver (of_first normal rest) es left written = (es ≡ []) × (written ≢ [])

-- the end of an open element
abbrev pub extent_of : OpenElement → Extent
extent_of e = if e.is_definite then Definite e.after else Indefinite

-- what is left after the elements inside an open element, if these bytes follow it
abbrev pub end_of : Extent → List ℕ → List ℕ
end_of (Definite after) back = []
end_of Indefinite back = 0 ∷ 0 ∷ back

-- these bytes follow the open element
abbrev pub IsAfter : Extent → List ℕ → Type 0
IsAfter (Definite after) back = after.now ≡ back
IsAfter Indefinite back = ⊤

-- The bytes left are elements inside the open element, which ends then, and the rest comes. Its length is written over an octet before
-- its contents octets.
pub record AreInside (e : OpenElement) (Later : List ℕ → List ℕ → Type 0) (left written : List ℕ) : Type 0 where
  pub others : List ℕ
  pub back : List ℕ
  pub size : List ℕ
  pub spell : Spells left others (end_of (extent_of e) back)
  pub after : IsAfter (extent_of e) back
  pub is_size : IsLength (length (drop e.contents written ++ others)) size
  pub later : Later back (take (e.contents - 1) written ++ (size ++ (drop e.contents written ++ others)))

-- what is to come inside the open elements, the outermost first
abbrev pub Comes : List OpenElement → (List ℕ → List ℕ → Type 0) → List ℕ → List ℕ → Type 0
Comes [] Later left written = Later left written
Comes (e ∷ es) Later left written = Comes es (AreInside e Later) left written

-- The walk will have this outcome.
abbrev pub Writes : Walk → Outcome → Type 0
Writes walk outcome = Comes walk.begun.items (Remains outcome) walk.left.now (written_in walk.written)

-- The walk has to go on for this outcome.
abbrev pub GoesOn : Walk → Outcome → Type 0
GoesOn walk outcome = ¬ IsOver outcome walk.begun.items walk.left.now (written_in walk.written)

-- The element was begun in a segment, behind these octets. Its contents octets are the last that were written, in this segment and
-- later ones.
pub record IsBegunIn (e : OpenElement) (Before : List (List ℕ) → Type 0) (segments : List (List ℕ)) : Type 0 where
  pub before : List (List ℕ)
  pub outside : List ℕ
  pub front : List ℕ
  pub rest : List ℕ
  pub after : List (List ℕ)
  pub tag : Tag
  pub begun : IsBegun tag true front
  pub are : segments ≡ before ++ ((outside ++ front) ++ rest) ∷ after
  pub segment : e.segment ≡ length before
  pub index : suc e.index ≡ length (outside ++ front)
  pub inside : e.contents ≡ length ((joined before ++ outside) ++ front)
  pub outer : Before (before ++ outside ∷ [])

-- the open elements were begun, each inside the one before it
abbrev pub AreBegun : List OpenElement → (List (List ℕ) → Type 0) → List (List ℕ) → Type 0
AreBegun [] Before segments = Before segments
AreBegun (e ∷ es) Before segments = AreBegun es (IsBegunIn e Before) segments

-- The open elements of the walk were begun, and what was written is counted.
pub record IsConsistent (walk : Walk) : Type 0 where
  pub begun : AreBegun walk.begun.items (λ _. ⊤) (segments_of walk.written)
  pub counted : IsCounted walk.written

-- how many bytes follow an element of a definite length
abbrev pub bytes_after : Extent → ℕ
bytes_after (Definite after) = length after.now
bytes_after Indefinite = 0

-- how many bytes follow elements of definite lengths
abbrev pub bytes_behind : List OpenElement → ℕ
bytes_behind [] = 0
bytes_behind (e ∷ es) = bytes_after (extent_of e) + bytes_behind es

-- how much is left to do: each octet twice at most, and each open element once
abbrev pub work : Walk → ℕ
work walk = 2 * (length walk.left.now + bytes_behind walk.begun.items) + length walk.begun.items

-- These bytes follow an open element of this tag: its contents octets from here on are elements, of which it is made.
pub record IsClosing (tag : Tag) (extent : Extent) (left own back : List ℕ) : Type 0 where
  pub others : List ℕ
  pub spell : Spells left others (end_of extent back)
  pub after : IsAfter extent back
  pub element : IsElement tag true others own

-- The bytes are those of a primitive element, and those after it.
pub record IsCopy (own back mine after : List ℕ) : Type 0 where
  pub own_is : mine ≡ own
  pub back_is : after ≡ back

-- The octets behind elements that no other follows: none, or end-of-contents octets.
pub data IsEnd : List ℕ → Type 0 where
  nothing_left : IsEnd []
  end_octets : (back : List ℕ) → IsEnd (0 ∷ 0 ∷ back)

-- The first of the elements is one of which this holds, and others are after it.
pub record IsSplit (Is : List ℕ → List ℕ → Type 0) (others rest : List ℕ) : Type 0 where
  pub own : List ℕ
  pub back : List ℕ
  pub later : List ℕ
  pub is : Is own back
  pub are : others ≡ own ++ later
  pub spell : Spells back later rest

-- The element with which the bytes begin is one of which this holds, and no other.
pub record Splits (Is : List ℕ → List ℕ → Type 0) (left : List ℕ) : Type 0 where
  pub alone : (own back : List ℕ) → SpellsOne left own back → Is own back
  pub one : (own back : List ℕ) → Is own back → SpellsOne left own back
  pub ahead : (others rest : List ℕ) → IsEnd rest → Spells left others rest → IsSplit Is others rest
  pub behind : (own back later rest : List ℕ) → Is own back → Spells back later rest → Spells left (own ++ later) rest

-- The innermost open element ends here, and these bytes follow it.
pub record IsEnding (walk : Walk) (back : List ℕ) : Type 0 where
  pub outer : List OpenElement
  pub innermost : OpenElement
  pub are : walk.begun.items ≡ outer ++ innermost ∷ []
  pub ends : walk.left.now ≡ end_of (extent_of innermost) back
  pub after : IsAfter (extent_of innermost) back

-- The header is that of the next element.
pub record IsElementHere (header : HeaderRead) (walk : Walk) : Type 0 where
  pub at : header_at walk.left.now ≡ Some (header_of header)
  pub is_element : header.tag ≢ end_of_contents

-- A step of a walk: it will have the same outcome, and less is left to do.
pub record Goes (old new : Walk) : Type 0 where
  pub consistent : IsConsistent new
  pub ahead : (outcome : Outcome) → GoesOn old outcome → Writes old outcome → Writes new outcome
  pub behind : (outcome : Outcome) → GoesOn old outcome → Writes new outcome → Writes old outcome
  pub less : work new < work old

-- The walk has no outcome for which it has to go on, since the bytes left are no elements.
abbrev pub IsStuck : Walk → Type 0
IsStuck walk = (outcome : Outcome) → GoesOn walk outcome → ¬ Writes walk outcome

-- A step that fails: memory ran out, or the bytes left are no elements.
pub record IsRefused (walk : Walk) (e : ItemError) : Type 0 where
  pub stuck : e ≢ Memory → IsStuck walk
  pub not_missing : ¬ IsMissing e
