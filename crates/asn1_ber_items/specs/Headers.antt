-- The header of an element of BER (X.690, 8.1.2 and 8.1.3): identifier octets and length octets.
use Rattle.std.specs.Prelude.{ℕ, ◌-◌, ◌^◌, Bool, ◌&&◌, Option, None, Some, List, [], ◌∷◌, length, nat_eq, nat_le, nat_lt, take, drop, if◌then◌else◌}
use Rattle.std.specs.Option.{option_and_then, option_map}
use Rattle.asn1_tags.specs.declared.classes.Class.TheVariants.{Universal}
use Rattle.asn1_tags.specs.declared.tags.Tag.{Tag}
use Rattle.asn1_der_items.specs.Identifiers.{Identified, identifier_at}
use Rattle.asn1_values.specs.Numbers.{magnitude}
use Rattle.asn1_ber_items.specs.declared.header.Header.{Header as HeaderRead}
use Rattle.asn1_ber_items.specs.declared.size.Measured.{Measured as MeasuredRead}

-- a length that was read in front of some bytes, and the bytes after it. An indefinite length is none
pub record Measured : Type 0 where
  pub size : Option ℕ
  pub rest : List ℕ

-- the same of a length that the program read
abbrev pub measured_of : MeasuredRead → Measured
measured_of m = record { size = m.size; rest = m.rest.now }

-- the length in the next octets, as many as this, the highest first, if it is below 2^64. There may be zeros in front (8.1.3.5)
abbrev pub long_size_at : ℕ → List ℕ → Option Measured
long_size_at count bytes = if nat_le count (length bytes) && nat_lt (magnitude (take count bytes)) (2 ^ 64)
    then Some (record { size = Some (magnitude (take count bytes)); rest = drop count bytes })
    else None

-- the length after a first octet of 128 or more, less 128: none begins an indefinite length (8.1.3.6), and 127 no length
abbrev pub later_size_at : ℕ → List ℕ → Option Measured
later_size_at count rest = if nat_eq count 0 then Some (record { size = None; rest = rest })
    else (if nat_eq count 127 then None else long_size_at count rest)

-- the length with which the bytes begin: a first octet below 128 is the length (8.1.3.4)
abbrev pub size_at : List ℕ → Option Measured
size_at [] = None
size_at (o ∷ rest) = if nat_lt o 128 then Some (record { size = Some o; rest = rest }) else later_size_at (o - 128) rest

-- identifier octets and length octets that were read in front of some bytes, and the bytes after them
pub record Header : Type 0 where
  pub tag : Tag
  pub constructed : Bool
  pub size : Option ℕ
  pub rest : List ℕ

-- the same of a header that the program read
abbrev pub header_of : HeaderRead → Header
header_of h = record { tag = h.tag; constructed = h.constructed; size = h.size; rest = h.rest.now }

-- the header of this identifier, with this length
abbrev pub with_size : Identified → Measured → Header
with_size i m = record { tag = i.tag; constructed = i.constructed; size = m.size; rest = m.rest }

-- the header of this identifier
abbrev pub of_identifier : Identified → Option Header
of_identifier i = option_map (with_size i) (size_at i.rest)

-- the header with which the bytes begin
abbrev pub header_at : List ℕ → Option Header
header_at bytes = option_and_then of_identifier (identifier_at bytes)

-- the tag of end-of-contents octets (8.1.5), which no element has
abbrev pub end_of_contents : Tag
end_of_contents = record { class = Universal; value = 0 }
