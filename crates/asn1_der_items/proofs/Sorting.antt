-- Each list has a rearrangement in which no element is less than the one before it.
use Rattle.std.proofs.Common.{◌≡◌, ℕ, zero, suc, ◌+◌, ◌<◌, Bool, true, false, List, [], ◌∷◌, get_or, refl, sym, ap, ◌∙◌, arith}
use Rattle.std.proofs.lemmas.List.Sorted.{IsPermutation-cons, IsPermutation-middle, IsPermutation-refl, IsPermutation-trans}
use Rattle.std.specs.Prelude.{⊤, IsPermutation, IsSortedBy, map, if◌then◌else◌}
use Rattle.std.specs.Bool.{Decides}
use Rattle.std.specs.Cmp.{IsStrictWeakOrder}

module _ {X : Type 0} (lt : X → X → Bool) where
  -- No element is less than the one before it.
  abbrev pub IsAscending : List X → Type 0
  IsAscending [] = ⊤
  IsAscending (x ∷ []) = ⊤
  IsAscending (x ∷ y ∷ ys) = (lt y x ≡ false) × IsAscending (y ∷ ys)

  -- The first is not less than w.
  abbrev pub NotLess : X → List X → Type 0
  NotLess w [] = ⊤
  NotLess w (x ∷ xs) = lt x w ≡ false

  ascending_cons : (x : X) (xs : List X) → NotLess x xs → IsAscending xs → IsAscending (x ∷ xs)
  ascending_cons x [] first ascends = tt
  ascending_cons x (y ∷ ys) first ascends = (first, ascends)

  pub ascending_tail : (x : X) (xs : List X) → IsAscending (x ∷ xs) → IsAscending xs
  ascending_tail x [] ascends = tt
  ascending_tail x (y ∷ ys) ascends = ascends.1

  ascending_first : (x : X) (xs : List X) → IsAscending (x ∷ xs) → NotLess x xs
  ascending_first x [] ascends = tt
  ascending_first x (y ∷ ys) ascends = ascends.0

  -- One more element in its place.
  record Inserted (x : X) (ys : List X) : Type 0 where
    pub all : List X
    pub permutation : IsPermutation (x ∷ ys) all
    pub ascends : IsAscending all
    pub first : (w : X) → lt x w ≡ false → NotLess w ys → NotLess w all

  module _ (asymmetric : (x y : X) → lt x y ≡ true → lt y x ≡ false) where
    inserted : (x : X) (ys : List X) → IsAscending ys → Inserted x ys
    inserted x [] ascends = record { all = x ∷ []; permutation = IsPermutation-refl (x ∷ []); ascends = tt; first = λ w own others. own }
    inserted x (y ∷ ys) ascends = by (lt y x) refl (inserted x ys (ascending_tail y ys ascends))
      where
        by : (b : Bool) → lt y x ≡ b → Inserted x ys → Inserted x (y ∷ ys)
        by false e i = record { all = x ∷ y ∷ ys; permutation = IsPermutation-refl (x ∷ y ∷ ys); ascends = (e, ascends); first = λ w own others. own }
        by true e i = record {
          all = y ∷ i.all;
          permutation = IsPermutation-trans (x ∷ y ∷ ys) (y ∷ x ∷ ys) (y ∷ i.all) (IsPermutation-middle (x ∷ []) y ys) (IsPermutation-cons y (x ∷ ys) i.all i.permutation);
          ascends = ascending_cons y i.all (i.first y (asymmetric y x e) (ascending_first y ys ascends)) i.ascends;
          first = λ w own others. others;
        }

    -- A rearrangement that ascends.
    pub record Sorted (xs : List X) : Type 0 where
      pub all : List X
      pub permutation : IsPermutation xs all
      pub ascends : IsAscending all

    pub sorted : (xs : List X) → Sorted xs
    sorted [] = record { all = []; permutation = IsPermutation-refl []; ascends = tt }
    sorted (x ∷ xs) =
        let s = sorted xs in
        let i = inserted x s.all s.ascends in
        record { all = i.all; permutation = IsPermutation-trans (x ∷ xs) (x ∷ s.all) i.all (IsPermutation-cons x xs s.all s.permutation) i.permutation; ascends = i.ascends }

  -- as std says it
  pub sorted_by : (xs : List X) → IsAscending xs → IsSortedBy lt xs
  sorted_by [] ascends k d low within = absurd (omega arith)
  sorted_by (x ∷ []) ascends k d low within = absurd (omega arith)
  sorted_by (x ∷ y ∷ ys) ascends zero d low within = ascends.0
  sorted_by (x ∷ y ∷ ys) ascends (suc k) d low within =
      let next : suc k + 1 ≡ suc (k + 1) = omega arith in
      ap (λ i. lt (get_or (x ∷ y ∷ ys) i d) (get_or (y ∷ ys) k d)) next ∙ sorted_by (y ∷ ys) ascends.1 k d (omega arith) (omega arith)

  -- and back
  pub ascending_from : (xs : List X) → IsSortedBy lt xs → IsAscending xs
  ascending_from [] ordered = tt
  ascending_from (x ∷ []) ordered = tt
  ascending_from (x ∷ y ∷ ys) ordered = (
    ordered 0 x (omega arith) (omega arith),
    ascending_from (y ∷ ys) (λ k d low within.
        let next : suc k + 1 ≡ suc (k + 1) = omega arith in
        ap (λ i. lt (get_or (x ∷ y ∷ ys) (suc i) d) (get_or (y ∷ ys) k d)) (omega arith) ∙ ap (λ i. lt (get_or (x ∷ y ∷ ys) i d) (get_or (y ∷ ys) k d)) (sym next) ∙ ordered (suc k) d (omega arith) (omega arith)),
  )

-- the same of what the elements are mapped to
pub ascending_map : {X Y : Type 0} (lt : Y → Y → Bool) (f : X → Y) (xs : List X) → IsAscending (λ x y. lt (f x) (f y)) xs → IsAscending lt (map f xs)
ascending_map lt f [] ascends = tt
ascending_map lt f (x ∷ []) ascends = tt
ascending_map lt f (x ∷ y ∷ ys) ascends = (ascends.0, ascending_map lt f (y ∷ ys) ascends.1)

-- how often it is among the elements
abbrev pub one_if : Bool → ℕ
one_if b = if b then 1 else 0

abbrev pub count : {X : Type 0} → (X → X → Bool) → X → List X → ℕ
count eq e [] = 0
count eq e (x ∷ xs) = one_if (eq x e) + count eq e xs

-- Lists that rise and have the same elements are the same, where elements of which neither is less are.
module _ {X : Type 0} (lt eq : X → X → Bool) where
  module _ (decides : (x y : X) → Decides (eq x y) (x ≡ y)) (order : IsStrictWeakOrder lt) where
    own : (x : X) (xs : List X) → 0 < count eq x (x ∷ xs)
    own x xs = let is : one_if (eq x x) ≡ 1 = ap one_if ((decides x x).1 refl) in omega arith

    later : (e x : X) (xs : List X) → 0 < count eq e xs → 0 < count eq e (x ∷ xs)
    later e x xs some = omega arith

    not_less : (x : X) → lt x x ≡ false
    not_less x = by (lt x x) refl
      where
        by : (b : Bool) → lt x x ≡ b → lt x x ≡ false
        by false e = e
        by true e = order.one_way x x e

    -- No element is less than the first.
    first_least : (e x : X) (xs : List X) → IsAscending lt (x ∷ xs) → 0 < count eq e (x ∷ xs) → lt e x ≡ false
    first_least e x [] ascends some = by (eq x e) refl some
      where
        by : (b : Bool) → eq x e ≡ b → 0 < one_if b + 0 → lt e x ≡ false
        by true is some = ap (λ w. lt w x) (sym ((decides x e).0 is)) ∙ not_less x
        by false is some = absurd (omega arith)
    first_least e x (y ∷ ys) ascends some = by (eq x e) refl some (first_least e y ys ascends.1)
      where
        by : (b : Bool) → eq x e ≡ b → 0 < one_if b + count eq e (y ∷ ys) → (0 < count eq e (y ∷ ys) → lt e y ≡ false) → lt e x ≡ false
        by true is some rest = ap (λ w. lt w x) (sym ((decides x e).0 is)) ∙ not_less x
        by false is some rest = order.chain e y x (rest (omega (arith, some))) ascends.0

    pub one_order : (xs ys : List X) → IsAscending lt xs → IsAscending lt ys → ((x y : X) → 0 < count eq x xs → 0 < count eq y xs → lt x y ≡ false → lt y x ≡ false → x ≡ y) → ((e : X) → count eq e xs ≡ count eq e ys) → xs ≡ ys
    one_order [] [] ascending_x ascending_y ties same = refl
    one_order [] (y ∷ ys) ascending_x ascending_y ties same = absurd (omega (arith, own y ys, same y))
    one_order (x ∷ xs) [] ascending_x ascending_y ties same = absurd (omega (arith, own x xs, same x))
    one_order (x ∷ xs) (y ∷ ys) ascending_x ascending_y ties same =
        let among_x : 0 < count eq y (x ∷ xs) = omega (arith, own y ys, same y) in
        let among_y : 0 < count eq x (y ∷ ys) = omega (arith, own x xs, same x) in
        let first : x ≡ y = ties x y (own x xs) among_x (first_least x y ys ascending_y among_y) (first_least y x xs ascending_x among_x) in
        let rest = one_order xs ys (ascending_tail lt x xs ascending_x) (ascending_tail lt y ys ascending_y) (λ a b p q. ties a b (later a x xs p) (later b x xs q)) (λ e. omega (arith, same e, ap (λ w. one_if (eq w e)) first)) in
        ap (λ w. w ∷ xs) first ∙ ap (λ l. y ∷ l) rest
