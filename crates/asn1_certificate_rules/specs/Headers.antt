-- Identifier octets and length octets by X.690, 8.1.2 and 8.1.3, that are not those of DER.
use Rattle.std.specs.Prelude.{◌≡◌, ◌⊎◌, ℕ, ◌<◌, ◌-◌, ◌%◌, Option, None, Some, List, [], ◌∷◌, length, nat_lt, if◌then◌else◌}
use Rattle.asn1_certificate_rules.specs.declared.rule.Rule.{Rule}
use Rattle.asn1_certificate_rules.specs.declared.rule.Rule.TheVariants.{LongIdentifier, IndefiniteLength, LongLength}

-- what is behind the octets of a number, whose last octet alone has no bit 8 (8.1.2.4.2)
abbrev pub behind_septets : List ℕ → Option (List ℕ)
behind_septets [] = None
behind_septets (o ∷ rest) = if nat_lt o 128 then Some rest else behind_septets rest

-- What is behind identifier octets: one octet, and where bits 5 to 1 of it are ones also the octets of a number.
abbrev pub behind_identifier : List ℕ → Option (List ℕ)
behind_identifier [] = None
behind_identifier (o ∷ rest) = if nat_lt (o % 32) 31 then Some rest else behind_septets rest

-- The number of the tag has octets of its own. The first of them is a septet of zero, which 8.1.2.4.2 c forbids, or the number is
-- below 31, and has to be in the first octet (8.1.2.2).
abbrev pub HasLongIdentifier : List ℕ → Type 0
HasLongIdentifier (o ∷ p ∷ rest) = (o % 32 ≡ 31) × ((p ≡ 128) ⊎ (p < 31))
HasLongIdentifier _ = ⊥

-- the octet of the indefinite form (8.1.3.6)
abbrev pub IsIndefinite : List ℕ → Type 0
IsIndefinite (o ∷ rest) = o ≡ 128
IsIndefinite [] = ⊥

-- The long form of a length (8.1.3.5), of which the first octet says how many follow: the one that follows is below 128, and so fits
-- into the short form, or the first of several is zero, and so can be left out.
abbrev pub IsLongLength : List ℕ → Type 0
IsLongLength (o ∷ p ∷ rest) = ((o ≡ 129) × (p < 128)) ⊎ ((129 < o) × (p ≡ 0))
IsLongLength _ = ⊥

-- Length octets of which this holds are behind the identifier octets, at this position.
pub record HasLength (Is : List ℕ → Type 0) (bytes : List ℕ) (position : ℕ) : Type 0 where
  pub rest : List ℕ
  pub behind : behind_identifier bytes ≡ Some rest
  pub are : Is rest
  pub at : position ≡ length bytes - length rest

-- the rules that identifier octets and length octets break, with the position of the first octet of these
abbrev pub BreaksHeader : List ℕ → Rule → ℕ → Type 0
BreaksHeader bytes LongIdentifier position = HasLongIdentifier bytes × (position ≡ 0)
BreaksHeader bytes IndefiniteLength position = HasLength IsIndefinite bytes position
BreaksHeader bytes LongLength position = HasLength IsLongLength bytes position
BreaksHeader bytes _ position = ⊥

-- the identifier and the length with which bytes begin break none of them
abbrev pub HeaderKeepsRules : List ℕ → Type 0
HeaderKeepsRules bytes = (rule : Rule) (position : ℕ) → BreaksHeader bytes rule position → ⊥
