-- The fronts of a stream of blocks: the first 1000 bytes, whatever they are. A block has no value that its bytes could be read as.
use Rattle.std.specs.Prelude.{◌≡◌, ◌≤◌, ℕ, ⊤, true, List, length}
use Rattle.asn1_rules.specs.Fronts.{Fronts, IsLawful}

-- the first n bytes are a block
abbrev pub is_block : List ℕ → ℕ → Type 0
is_block bytes n = (n ≡ 1000) × (n ≤ length bytes)

abbrev pub block_fronts : {R : Type 0} → Fronts R ⊤
block_fronts = record {
  cut = λ reader bytes n. is_block bytes n;
  front = λ reader bytes v n. is_block bytes n;
  read_as = λ reader own w. ⊤;
  same = λ w v. true;
  height = λ v. 0;
  depth = λ reader. 0;
}

pub block_fronts_are_lawful : {R : Type 0} → IsLawful {R = R} block_fronts
block_fronts_are_lawful = record {
  is_cut = λ reader bytes v n front. front;
  within = λ reader bytes n cut. cut.1;
}
