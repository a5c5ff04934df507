-- What an iterator keeps where bytes are appended, or are not for want of memory.
use Rattle.std.proofs.Common.{◌≡◌, ℕ, List, ◌++◌, Option, Some, Result, Ok, Err, ap, sym, subst}
use Rattle.std.proofs.Math.Logic.{∥∥₁_elim}
use Rattle.std.specs.Prelude.{OnErr, OnOk}
use Rattle.asn1_rules.specs.States.{count_of}

-- as many bytes are kept
pub count_after : {V E : Type 0} (result : Result V E) (old new : Option ℕ) → OnOk result (new ≡ Some (count_of old)) → OnErr result (new ≡ old) → count_of new ≡ count_of old
count_after (Ok v) old new kept same = ap count_of kept
count_after (Err e) old new kept same = ap count_of same

-- the reader came as far
pub came_after : {V E : Type 0} (result : Result V E) (Came : List ℕ → Type 0) (old new piece : List ℕ) → OnOk result (new ≡ old ++ piece) → OnErr result (new ≡ old) →
    ((bytes behind : List ℕ) → Came bytes → Came (bytes ++ behind)) → ∥ Came old ∥₁ → ∥ Came new ∥₁
came_after (Ok v) Came old new piece appended same more came = ∥∥₁_elim came squash₁ (λ is. ∣ subst Came (sym appended) (more old piece is) ∣₁)
came_after (Err e) Came old new piece appended same more came = ∥∥₁_elim came squash₁ (λ is. ∣ subst Came (sym same) is ∣₁)
