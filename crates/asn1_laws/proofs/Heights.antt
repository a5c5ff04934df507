-- How deep records are nested.
use Rattle.std.proofs.Common.{◌≡◌, ℕ, suc, max, List, [], ◌∷◌, ◌++◌, ap, ◌∙◌, arith}
use Rattle.asn1_model.specs.Records.{Head, Record, height, highest, holding}
use Rattle.asn1_model.proofs.RecordLists.{inner_height-held}

pub highest-append : (rs ss : List Record) → highest (rs ++ ss) ≡ max (highest rs) (highest ss)
highest-append [] ss = omega arith
highest-append (r ∷ rs) ss = omega (arith, highest-append rs ss)

max-zero : (n : ℕ) → max n 0 ≡ n
max-zero n = omega arith

pub highest-holding : (h : Head) (rs : List Record) → highest (holding h rs ∷ []) ≡ suc (highest rs)
highest-holding h rs = max-zero (height (holding h rs)) ∙ ap suc (inner_height-held rs)
