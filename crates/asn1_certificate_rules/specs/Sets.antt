-- Sets whose elements are not in ascending order (X.690, 10.3 and 11.6).
use Rattle.std.specs.Prelude.{◌≡◌, ℕ, ◌+◌, ◌-◌, Bool, true, ◌&&◌, not, List, Some, length, take}
use Rattle.std.specs.Cmp.Lexicographic.{slice_cmp}
use Rattle.std.specs.Ordering.{is_gt, is_lt, nat_cmp}
use Rattle.asn1_der_items.specs.Elements.{Element, element_at}
use Rattle.asn1_tags.specs.Tags.{tag_cmp}

-- the octets of the element with which bytes begin
abbrev pub octets_of : List ℕ → Element → List ℕ
octets_of bytes e = take (length bytes - length e.rest) bytes

-- The second element is below the first as a list of octets, and not above it by its tag: so the two are in the order of neither a
-- SET OF nor a SET.
abbrev pub precedes : List ℕ → Element → Element → Bool
precedes bytes e f = is_lt (slice_cmp nat_cmp (octets_of e.rest f) (octets_of bytes e)) && not (is_gt (tag_cmp f.tag e.tag))

-- At this position there is such an element behind the one before it.
pub data IsOutOfOrder : List ℕ → ℕ → Type 0 where
  second : (bytes : List ℕ) (e f : Element) → element_at bytes ≡ Some e → element_at e.rest ≡ Some f → precedes bytes e f ≡ true →
      IsOutOfOrder bytes (length bytes - length e.rest)
  behind : (bytes : List ℕ) (e : Element) (position : ℕ) → element_at bytes ≡ Some e → IsOutOfOrder e.rest position →
      IsOutOfOrder bytes (length bytes - length e.rest + position)

-- At no position is there one.
abbrev pub IsInOrder : List ℕ → Type 0
IsInOrder bytes = (position : ℕ) → IsOutOfOrder bytes position → ⊥
