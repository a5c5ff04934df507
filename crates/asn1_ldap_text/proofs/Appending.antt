-- Texts that are appended one after another.
use Rattle.std.proofs.Common.{◌≡◌, ℕ, List, ◌++◌, OnOk, Result, Ok, Err, ap, append_assoc, ◌∙◌}

-- one text, and then another
pub further : {V E : Type 0} (r : Result V E) (old first second between new : List ℕ) → between ≡ old ++ first →
    OnOk r (new ≡ between ++ second) → OnOk r (new ≡ old ++ (first ++ second))
further (Ok v) old first second between new here there = there ∙ (ap (λ l. l ++ second) here ∙ append_assoc old first second)
further (Err e) old first second between new here there = there
