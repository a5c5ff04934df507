-- The unread bytes of a stream of values.
use Rattle.std.specs.Prelude.{◌≡◌, ℕ, ⊤, true, List, [], ◌∷◌, ◌++◌}
use Rattle.asn1_rules.specs.Fronts.{Fronts, IsSteady}
use Rattle.asn1_rules.specs.Pieces.{AreFronts, AreReadOf}
use Rattle.asn1_rules.specs.States.{State}

-- The values that came are the same as those that were written, one by one, as far as both go, and
-- what is unread are fronts of the others.
abbrev pub Remains : {R V : Type 0} → Fronts R V → R → List V → List V → List ℕ → Type 0
Remains F reader [] vs unread = AreFronts F reader vs unread
Remains F reader (w ∷ ws) [] unread = ⊤
Remains F reader (w ∷ ws) (v ∷ vs) unread = (F.same w v ≡ true) × Remains F reader ws vs unread

-- A call that takes values from an iterator and appends them to those that came: it keeps
-- `Remains`, whatever bytes come after the unread ones.
abbrev pub KeepsRemaining : {R V : Type 0} → Fronts R V → State R → State R → List V → List V → Type 0
KeepsRemaining {V = V} F old new came now = (vs : List V) (behind : List ℕ) → IsSteady F old.reader →
    Remains F old.reader came vs (old.unread ++ behind) → Remains F old.reader now vs (new.unread ++ behind)

-- A call that takes values from an iterator and appends them to those that came: wherever others are read
-- of what is unread now, these and the others were read of what was unread before.
pub record AddsRead {R V : Type 0} (F : Fronts R V) (old new : State R) (came now : List V) : Type 0 where
  pub taken : List V
  pub are : now ≡ came ++ taken
  pub read : (others : List V) (behind : List ℕ) → AreReadOf F old.reader others (new.unread ++ behind) →
      AreReadOf F old.reader (taken ++ others) (old.unread ++ behind)
