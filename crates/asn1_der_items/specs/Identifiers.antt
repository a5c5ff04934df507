-- The identifier octets of an element (X.690, 8.1.2): its class, whether it is constructed, and the number of its tag.
use Rattle.std.specs.Prelude.{◌≡◌, ◌⊎◌, ℕ, ◌+◌, ◌*◌, ◌/◌, ◌%◌, ◌<◌, ◌≤◌, ◌^◌, Bool, ◌&&◌, ◌==◌, Option, None, Some, List, [], ◌∷◌, nat_le, nat_lt, if◌then◌else◌}
use Rattle.std.specs.Option.{option_and_then}
use Rattle.asn1_tags.specs.Tags.{class_number}
use Rattle.asn1_tags.specs.declared.classes.Class.{Class}
use Rattle.asn1_tags.specs.declared.tags.Tag.{Tag}
use Rattle.asn1_items.specs.Headers.{class_at}
use Rattle.asn1_der_items.specs.Base128.{Front, IsBase128, base128_at}

-- what the form of an element is worth in its first octet: bit 6 is 1 where it is constructed (8.1.2.5)
abbrev pub form_bit : Bool → ℕ
form_bit constructed = if constructed then 32 else 0

-- the first octet: the class in bits 8 and 7, the form in bit 6, and this in bits 5 to 1
abbrev pub first_octet : Class → Bool → ℕ → ℕ
first_octet class constructed low = class_number class * 64 + form_bit constructed + low

-- A tag with a number below 31 is one octet (8.1.2.2).
pub record IsLowTag (t : Tag) (constructed : Bool) (octets : List ℕ) : Type 0 where
  pub are : octets ≡ first_octet t.class constructed t.value ∷ []
  pub below : t.value < 31

-- Any other is an octet with 31 in place of the number, and the number to the base 128 (8.1.2.4). It is below 2^32.
pub record IsHighTag (t : Tag) (constructed : Bool) (octets : List ℕ) : Type 0 where
  pub number : List ℕ
  pub are : octets ≡ first_octet t.class constructed 31 ∷ number
  pub value : IsBase128 t.value number
  pub not_low : 31 ≤ t.value
  pub fits : t.value < 2 ^ 32

-- The octets are this tag, of a primitive or a constructed element.
abbrev pub IsIdentifier : Tag → Bool → List ℕ → Type 0
IsIdentifier t constructed octets = IsLowTag t constructed octets ⊎ IsHighTag t constructed octets

-- an identifier that was read in front of some bytes, and the bytes after it
pub record Identified : Type 0 where
  pub tag : Tag
  pub constructed : Bool
  pub rest : List ℕ

-- the identifier of a class, whose number and what follows it are these, if the number is 31 or more and below 2^32
abbrev pub high_tag : Class → Bool → Front → Option Identified
high_tag class constructed f = if nat_le 31 f.number && nat_lt f.number (2 ^ 32)
    then Some (record { tag = record { class = class; value = f.number }; constructed = constructed; rest = f.rest })
    else None

-- the identifier of a class, whose number is in these octets, which follow the first
abbrev pub high_tag_at : Class → Bool → List ℕ → Option Identified
high_tag_at class constructed octets = option_and_then (high_tag class constructed) (base128_at octets)

-- the identifier of a class, whose form is this and whose first octet has this number
abbrev pub of_class : Bool → ℕ → List ℕ → Class → Option Identified
of_class constructed low rest class = if nat_lt low 31
    then Some (record { tag = record { class = class; value = low }; constructed = constructed; rest = rest })
    else high_tag_at class constructed rest

-- the identifier with which the bytes begin
abbrev pub identifier_at : List ℕ → Option Identified
identifier_at [] = None
identifier_at (o ∷ rest) = option_and_then (of_class (o / 32 % 2 == 1) (o % 32) rest) (class_at (o / 64))
