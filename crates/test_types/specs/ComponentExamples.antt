-- Components and types that the examples of well-tagged and of valid types are about.
use Rattle.std.specs.Ordering.{int_eq}
use Rattle.std.specs.Prelude.{ℤ, Bool, true, false, not, List, [], ◌∷◌, Option, Some, codes}
use Rattle.asn1_components.specs.ComponentTypes.{ComponentType, addition_with_default, optional, required, with_default}
use Rattle.asn1_components.specs.Components.{Components, constructed_type, extensible_sequence, group, sequence}
use Rattle.asn1_model.specs.Meaning.{Meaning}
use Rattle.asn1_model.specs.TaggedTypes.{tagged, untagged}
use Rattle.asn1_model.specs.contracts.impls.boolean.BoolAsnType.TheImpl.{ghosts as boolean}
use Rattle.asn1_tags.specs.declared.tags.Tag.{Tag}

-- a flag that may be absent, and one that is always there
pub record Flags : Type 0 where
  pub a : Option Bool
  pub b : Bool

-- two truth values are the same
abbrev pub same_flag : Bool → Bool → Bool
same_flag true b = b
same_flag false b = not b

-- a [t] BOOLEAN OPTIONAL
abbrev pub optional_a : Tag → ComponentType Flags
optional_a t = optional (codes "a") (λ v. v.a) (tagged t boolean.meaning)

-- b [t] BOOLEAN
abbrev pub required_b : Tag → ComponentType Flags
required_b t = required (codes "b") (λ v. v.b) (tagged t boolean.meaning)

-- b [t] BOOLEAN DEFAULT TRUE, in the root
abbrev pub default_b : Tag → ComponentType Flags
default_b t = with_default (codes "b") (λ v. v.b) true (tagged t boolean.meaning) same_flag

-- the same after the extension marker
abbrev pub added_default_b : Tag → ComponentType Flags
added_default_b t = addition_with_default (codes "b") (λ v. v.b) true (tagged t boolean.meaning) same_flag

-- the type of these components
abbrev pub type_of : {V : Type 0} → Components V → Meaning V
type_of components = constructed_type (codes "Ambiguous") components

-- the group of these components, as the only addition of a type
abbrev pub in_group : Components Flags → List (ComponentType (Option Flags))
in_group components = group (codes "g") (λ v. v) components ∷ []

-- SEQUENCE { n T DEFAULT n }, of this number
abbrev pub number_with_default : ℤ → Meaning ℤ → Meaning ℤ
number_with_default n type = constructed_type (codes "Limited") (sequence (
    with_default (codes "n") (λ m. m) n (untagged type) int_eq ∷ []))

-- SEQUENCE { ..., [[ n T ]] }
abbrev pub number_in_group : Meaning ℤ → Meaning ℤ
number_in_group type = constructed_type (codes "Limited") (extensible_sequence [] (
    group (codes "g") (λ n. Some n) (sequence (required (codes "n") (λ n. n) (untagged type) ∷ [])) ∷ []))
