-- The arcs of an OBJECT IDENTIFIER as octets (X.690, 8.19).
use Rattle.std.specs.Prelude.{◌≡◌, ◌⊎◌, ℕ, ◌+◌, ◌*◌, ◌<◌, ◌≤◌, ◌^◌, ⊤, List, [], ◌∷◌, All}
use Rattle.asn1_items.specs.Items.{IsJoined}
use Rattle.asn1_der_items.specs.Base128.{IsBase128}

-- The octets are these numbers to the base 128, one after another (8.19.2).
abbrev pub AreNumbers : List ℕ → List ℕ → Type 0
AreNumbers [] octets = octets ≡ []
AreNumbers (n ∷ numbers) octets = IsJoined (IsBase128 n) (AreNumbers numbers) octets

-- The octets are these arcs: the first two as one number, and each that follows (8.19.4). The first is at most 2, and the
-- second below 40 where the first is less. Each is below 2^32.
pub record AreArcs (arcs octets : List ℕ) : Type 0 where
  pub first : ℕ
  pub second : ℕ
  pub rest : List ℕ
  pub are : arcs ≡ first ∷ second ∷ rest
  pub numbers : AreNumbers ((first * 40 + second) ∷ rest) octets
  pub first_of_three : first ≤ 2
  pub second_below : first < 2 → second < 40
  pub fit : All (λ arc. arc < 2 ^ 32) arcs

-- The arcs have no octets: there are fewer than two, the first is above 2, or the second is above 39 after a first below 2.
abbrev pub HaveNoOctets : List ℕ → Type 0
HaveNoOctets [] = ⊤
HaveNoOctets (first ∷ []) = ⊤
HaveNoOctets (first ∷ second ∷ rest) = (2 < first) ⊎ ((first < 2) × (39 < second))
