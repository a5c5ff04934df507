-- Values that are written one after another, and the values that are read of the pieces of their bytes.
use Rattle.std.specs.Prelude.{◌≡◌, ℕ, ⊤, Bool, true, List, [], ◌∷◌, ◌++◌, length, Option, IfSome}
use Rattle.std.specs.Borrow.{Bor}
use Rattle.std.specs.List.{flat_map}
use Rattle.asn1_laws.specs.declared.decode_error.DecodeError.{DecodeError}
use Rattle.asn1_laws.specs.Reading.{MayFail}
use Rattle.asn1_rules.specs.Fronts.{Fronts}

-- pieces, joined
abbrev pub joined : List (Bor (List ℕ)) → List ℕ
joined pieces = flat_map (λ piece. piece.now) pieces

-- The bytes are those of these values, by a relation of bytes and a value: one after another, and any rest.
pub data AreInTurn {V : Type 0} (AreOf : List ℕ → V → Type 0) : List V → List ℕ → Type 0 where
  rest : {bytes : List ℕ} → AreInTurn AreOf [] bytes
  one_and : {v : V} {vs : List V} {bytes : List ℕ} (own : List ℕ) → AreOf own v →
      AreInTurn AreOf vs bytes → AreInTurn AreOf (v ∷ vs) (own ++ bytes)

module _ {R V : Type 0} (F : Fronts R V) (reader : R) where
  -- The bytes are fronts of these values, one after another, and any rest.
  abbrev pub AreFronts : List V → List ℕ → Type 0
  AreFronts vs bytes = AreInTurn (λ front v. F.front reader front v (length front)) vs bytes

  -- The bytes are read as these values, one after another, and any rest is not read.
  abbrev pub AreReadOf : List V → List ℕ → Type 0
  AreReadOf vs bytes = AreInTurn (λ own v. F.read_as reader own v) vs bytes

-- The values that came are the same as those that were written, one by one, as far as both go.
-- If one is missing, and an error was the last answer, memory ran out, or the first missing value is
-- nested deeper than the reader's depth.
abbrev pub ComeBack : {V : Type 0} → (V → V → Bool) → (V → ℕ) → ℕ → List V → List V → Option DecodeError → Type 0
ComeBack same height depth [] [] last = ⊤
ComeBack same height depth [] (v ∷ vs) last = IfSome last (MayFail depth (height v))
ComeBack same height depth (w ∷ ws) [] last = ⊤
ComeBack same height depth (w ∷ ws) (v ∷ vs) last = (same w v ≡ true) × ComeBack same height depth ws vs last

-- The same, with the equality, height and depth of a reader of fronts.
abbrev pub FrontsComeBack : {R V : Type 0} → Fronts R V → R → List V → List V → Option DecodeError → Type 0
FrontsComeBack F reader ws vs last = ComeBack F.same F.height (F.depth reader) ws vs last
