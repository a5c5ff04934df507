-- A list outside, put after the others.
use Rattle.std.proofs.Common.{◌≡◌, ℕ, List, [], ◌∷◌, ◌++◌, refl}
use Rattle.asn1_items.specs.Slices.{left_of}
use Rattle.asn1_items.specs.declared.slices.Rest.{Rest}

pub left_of-last : (outer : List (List ℕ)) (rs : List Rest) (r : Rest) → left_of outer (rs ++ r ∷ []) ≡ r.bytes.now ∷ left_of outer rs
left_of-last outer [] r = refl
left_of-last outer (q ∷ rs) r = left_of-last (q.bytes.now ∷ outer) rs r
