-- The beginning of a message (RFC 4511, 4.1.1), in the normal form of an element.
use Rattle.std.specs.Prelude.{◌≡◌, ℕ, ◌<◌, ℤ, Bool, true, false, List, Option, None, Some, length}
use Rattle.std.specs.Option.{option_and_then}
use Rattle.asn1_der_items.specs.Elements.{Element, element_at}
use Rattle.asn1_der_items.specs.Integers.{IsInteger}
use Rattle.asn1_ldap_text.specs.Names.{operation_name}
use Rattle.asn1_tags.specs.declared.classes.Class.TheVariants.{Universal}
use Rattle.asn1_tags.specs.declared.tags.Tag.{Tag}

-- the tags of a SEQUENCE and an INTEGER
abbrev pub SEQUENCE : Tag
SEQUENCE = record { class = Universal; value = 16 }

abbrev pub INTEGER : Tag
INTEGER = record { class = Universal; value = 2 }

-- The octets begin with an element of this tag and form.
pub record BeginsWith (tag : Tag) (constructed : Bool) (octets : List ℕ) (element : Element) : Type 0 where
  pub found : element_at octets ≡ Some element
  pub tagged : element.tag ≡ tag
  pub formed : element.constructed ≡ constructed

-- The octets begin as a message does: with a SEQUENCE that has an INTEGER first, of these contents octets, before these octets.
pub record IsBeginning (octets message_id operation : List ℕ) : Type 0 where
  pub message : Element
  pub sequence : BeginsWith SEQUENCE true octets message
  pub first : Element
  pub integer : BeginsWith INTEGER false message.contents first
  pub contents : message_id ≡ first.contents
  pub rest : operation ≡ first.rest

-- The octets do not begin so.
abbrev pub IsNoBeginning : List ℕ → Type 0
IsNoBeginning octets = (message_id operation : List ℕ) → IsBeginning octets message_id operation → ⊥

-- The number is that of an INTEGER with these contents octets. It is unknown only if no INTEGER has them, or they are more than 8.
abbrev pub IsKnownAs : List ℕ → Option ℤ → Type 0
IsKnownAs octets (Some number) = IsInteger number octets
IsKnownAs octets None = (number : ℤ) → IsInteger number octets → 8 < length octets

-- the name of the operation with which the octets begin
abbrev pub name_at : List ℕ → Option (List ℕ)
name_at octets = option_and_then (λ element. operation_name element.tag) (element_at octets)
