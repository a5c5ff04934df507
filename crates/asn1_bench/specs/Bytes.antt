-- Fronts of single bytes: each byte is a value.
use Rattle.std.specs.Prelude.{◌≡◌, ◌==◌, ℕ, List, [], ◌∷◌}
use Rattle.asn1_rules.specs.Fronts.{Fronts}

-- one byte is a cut, where there is one
abbrev pub byte_cut : List ℕ → ℕ → Type 0
byte_cut [] n = ⊥
byte_cut (b ∷ bytes) n = n ≡ 1

-- it is the value
abbrev pub byte_front : List ℕ → ℕ → ℕ → Type 0
byte_front [] v n = ⊥
byte_front (b ∷ bytes) v n = (n ≡ 1) × (v ≡ b)

abbrev pub byte_fronts : {R : Type 0} → Fronts R ℕ
byte_fronts = record {
  cut = λ reader bytes n. byte_cut bytes n;
  front = λ reader bytes v n. byte_front bytes v n;
  read_as = λ reader own v. own ≡ v ∷ [];
  same = λ w v. w == v;
  height = λ v. 0;
  depth = λ reader. 0;
}

pub byte_front_is_cut : (bytes : List ℕ) (v n : ℕ) → byte_front bytes v n → byte_cut bytes n
byte_front_is_cut [] v n front = front
byte_front_is_cut (b ∷ bytes) v n front = front.0
