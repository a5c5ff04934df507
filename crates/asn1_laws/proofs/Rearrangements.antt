-- A rearrangement of what was made of the elements of a list, one of each, is made of a rearrangement of these.
use Rattle.std.proofs.Common.{◌≡◌, ℕ, ◌<◌, List, [], ◌∷◌, ◌++◌, map, get_or, set, length, refl, ap, sym, ◌∙◌, arith}
use Rattle.std.specs.Prelude.{IsPermutation}
use Rattle.std.specs.List.{flat_map, swap}
use Rattle.std.proofs.lemmas.List.Sorted.{IsPermutation-keeps, IsPermutation-refl, IsPermutation-swap, IsPermutation-sym, IsPermutation-trans}
use lib.ListN.{get_or-map, length-map}
use lib.Seq.{map-set}

module _ {X Y : Type 0} (f : X → Y) where
  map-swap : (xs : List X) (i j : ℕ) → map f (swap xs i j) ≡ swap (map f xs) i j
  map-swap [] i j = refl
  map-swap (x ∷ xs) i j =
      map-set f (set (x ∷ xs) i (get_or (x ∷ xs) j x)) j (get_or (x ∷ xs) i x)
      ∙ ap (λ l. set l j (f (get_or (x ∷ xs) i x))) (map-set f (x ∷ xs) i (get_or (x ∷ xs) j x))
      ∙ ap (λ y. set (set (map f (x ∷ xs)) i y) j (f (get_or (x ∷ xs) i x))) (sym (get_or-map f (x ∷ xs) j x))
      ∙ ap (λ y. set (set (map f (x ∷ xs)) i (get_or (map f (x ∷ xs)) j (f x))) j y) (sym (get_or-map f (x ∷ xs) i x))

  -- The list is made of some rearrangement of these.
  pub record MadeOf (ys : List Y) (xs : List X) : Type 0 where
    pub order : List X
    pub rearranged : IsPermutation order xs
    pub is : ys ≡ map f order

  exchanged : (xs : List X) (i j : ℕ) → i < length xs → j < length xs → IsPermutation (swap xs i j) xs
  exchanged xs i j p q = IsPermutation-sym xs (swap xs i j) (IsPermutation-swap xs (swap xs i j) i j p q refl)

  pub made_of : (ys : List Y) (xs : List X) → IsPermutation ys (map f xs) → MadeOf ys xs
  made_of ys xs moved =
      IsPermutation-keeps (map f xs) (λ l. MadeOf l xs)
      (record { order = xs; rearranged = IsPermutation-refl xs; is = refl })
      (λ l i j p q h.
      let long : length l ≡ length h.order = ap length h.is ∙ length-map h.order f in
      record {
        order = swap h.order i j;
        rearranged = IsPermutation-trans (swap h.order i j) h.order xs (exchanged h.order i j (omega (arith, p, long)) (omega (arith, q, long))) h.rearranged;
        is = ap (λ k. swap k i j) h.is ∙ sym (map-swap h.order i j);
      })
      ys (IsPermutation-sym ys (map f xs) moved)

-- where each is made one record
pub each_alone : {X Y : Type 0} (f : X → List Y) (one : X → Y) → ((x : X) → f x ≡ one x ∷ []) → (xs : List X) → flat_map f xs ≡ map one xs
each_alone f one is [] = refl
each_alone f one is (x ∷ xs) = ap (λ l. l ++ flat_map f xs) (is x) ∙ ap (λ l. one x ∷ l) (each_alone f one is xs)
