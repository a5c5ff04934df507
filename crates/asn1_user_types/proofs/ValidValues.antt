-- Each value of a type is valid.
use Rattle.std.proofs.Common.{List, [], ◌∷◌}
use Rattle.std.specs.Prelude.{All, ⊤}
use Rattle.std.proofs.lemmas.List.Elements.{All-nil, All-cons}

-- nothing is asked of the goods of an order
pub goods_valid : {X : Type 0} (goods : List X) → All (λ (x : X). ⊤) goods
goods_valid [] = All-nil (λ _. ⊤)
goods_valid (good ∷ goods) = All-cons (λ _. ⊤) good goods tt (goods_valid goods)
