-- Octets that are written in segments. (A segment of X.690, 8.7.3, is a piece in this crate.)
use Rattle.std.specs.Prelude.{◌≡◌, ℕ, true, suc, List, [], ◌∷◌, ◌++◌, IfOk, Result, Vec, length, map}
use Rattle.std.specs.declared.alloc.Global.{Global}
use Rattle.asn1_ber_items.specs.declared.segments.Room.{Room}
use Rattle.asn1_ber_items.specs.declared.segments.Segments.{Segments}
use Rattle.asn1_der_items.specs.Elements.{IsBegun}
use Rattle.asn1_der_items.specs.Lengths.{IsLength}
use Rattle.asn1_tags.specs.declared.tags.Tag.{Tag}

-- the octets of segments, one after another
abbrev pub joined : List (List ℕ) → List ℕ
joined [] = []
joined (s ∷ ss) = s ++ joined ss

-- the octets of each buffer
abbrev pub octets_of_each : List (Vec ℕ Global) → List (List ℕ)
octets_of_each buffers = map (λ (buffer : Vec ℕ Global). buffer.items) buffers

-- the segments that were written
abbrev pub segments_of : Segments → List (List ℕ)
segments_of s = octets_of_each s.full.items ++ s.last.items ∷ []

-- all octets that were written
abbrev pub written_in : Segments → List ℕ
written_in s = joined (segments_of s)

-- the octets of the segments before the last are counted
abbrev pub IsCounted : Segments → Type 0
IsCounted s = s.counted ≡ length (joined (octets_of_each s.full.items))

-- Other segments may follow, without octets.
pub record IsExtended (old new : Segments) : Type 0 where
  pub after : List (List ℕ)
  pub are : segments_of new ≡ octets_of_each old.full.items ++ old.last.items ∷ after
  pub none_after : joined after ≡ []
  pub counted : IsCounted new

-- A length of this size is in the place of the one octet that was left for it, between the octets before and those after. It has
-- this many octets beyond one.
pub record IsMeasured (size : ℕ) (front rest new : List ℕ) (added : ℕ) : Type 0 where
  pub octets : List ℕ
  pub is_length : IsLength size octets
  pub are : new ≡ (front ++ octets) ++ rest
  pub more : length octets ≡ suc added

-- a call that writes a length of this size over the octet at this index
abbrev pub WritesSize : {E : Type 0} → ℕ → ℕ → List ℕ → List ℕ → Result ℕ E → Type 0
WritesSize index size old new result =
    (front rest : List ℕ) (octet : ℕ) → old ≡ (front ++ octet ∷ []) ++ rest → index ≡ length front →
    IfOk result (IsMeasured size front rest new)

-- the same in one of the segments
pub record IsMeasuredIn (size : ℕ) (before after : List (List ℕ)) (front rest : List ℕ) (new : Segments) : Type 0 where
  pub octets : List ℕ
  pub is_length : IsLength size octets
  pub are : segments_of new ≡ before ++ ((front ++ octets) ++ rest) ∷ after
  pub counted : IsCounted new

-- a call that writes a length of this size over the octet that was left for it
abbrev pub WritesSizeIn : {V E : Type 0} → Room → ℕ → Segments → Segments → Result V E → Type 0
WritesSizeIn room size old new result =
    (before after : List (List ℕ)) (front rest : List ℕ) (octet : ℕ) →
    segments_of old ≡ before ++ ((front ++ octet ∷ []) ++ rest) ∷ after → room.segment ≡ length before →
    room.index ≡ length front → IsCounted old → IfOk result (λ _. IsMeasuredIn size before after front rest new)

-- A constructed element was begun in the last segment: its identifier octets are there, and an octet in the place of its length.
pub record IsBegunAt (tag : Tag) (old new : Segments) (room : Room) : Type 0 where
  pub front : List ℕ
  pub begun : IsBegun tag true front
  pub are : segments_of new ≡ octets_of_each old.full.items ++ (old.last.items ++ front) ∷ []
  pub segment : room.segment ≡ length (octets_of_each old.full.items)
  pub index : suc room.index ≡ length (old.last.items ++ front)
  pub counted : IsCounted new
