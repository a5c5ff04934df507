-- Searches in lists.
use Rattle.std.proofs.Common.{◌≡◌, ℕ, zero, suc, ◌+◌, ◌<◌, Bool, true, false, cond, Some, List, [], ◌∷◌, ◌++◌, AllPairs, Contains, length, get_or, map, refl, sym, ap, ◌∙◌, subst₂, arith}
use Rattle.std.specs.List.{find, slice_get}
use Rattle.std.specs.Option.{option_map}
use Rattle.std.proofs.lemmas.Bool.{false≢true}
use Rattle.std.proofs.lemmas.Option.{get_or_from_slice_get, none-some, same_Some, slice_get_within}
use Rattle.asn1_tags.proofs.ListPositions.{slice_get-append_left, slice_get-append_right}

-- a search in a list that is mapped
pub find-map : {X Y : Type 0} (p : Y → Bool) (f : X → Y) (xs : List X) → find p (map f xs) ≡ option_map f (find (λ x. p (f x)) xs)
find-map p f [] = refl
find-map {X = X} {Y = Y} p f (x ∷ xs) = by (p (f x)) (find-map p f xs)
  where
    by : (b : Bool) → find p (map f xs) ≡ option_map f (find (λ x. p (f x)) xs) →
        cond b (Some (f x)) (find p (map f xs)) ≡ option_map f (cond b (Some x) (find (λ x. p (f x)) xs))
    by true h = refl
    by false h = h

-- an element that is found is in the list, and passes the test
pub found : {X : Type 0} (p : X → Bool) (xs : List X) (x : X) → find p xs ≡ Some x → Contains xs x × (p x ≡ true)
found p [] x e = absurd (none-some x e)
found {X = X} p (y ∷ ys) x e = by (p y) refl (found p ys x) e
  where
    by : (b : Bool) → p y ≡ b → (find p ys ≡ Some x → Contains ys x × (p x ≡ true)) → cond b (Some y) (find p ys) ≡ Some x →
        Contains (y ∷ ys) x × (p x ≡ true)
    by true passes rest is = let same = same_Some y x is in ((zero, omega arith, same), sym (ap p same) ∙ passes)
    by false fails rest is = let r = rest is in let w = r.0.1 in ((suc r.0.0, omega (arith, w), r.0.2), r.1)

-- an element that passes is found, where no two elements do
pub find_only : {X : Type 0} (p : X → Bool) (xs : List X) (x : X) → AllPairs (λ a b. p a ≡ true → p b ≡ true → ⊥) xs → Contains xs x → p x ≡ true →
    find p xs ≡ Some x
find_only p [] x apart (k, within, is) passes = absurd (omega (arith, within))
find_only {X = X} p (y ∷ ys) x apart (k, within, is) passes =
    by (p y) refl (λ c. find_only p ys x (λ i j d lt inside. apart (suc i) (suc j) d (omega arith) (omega arith)) c passes) k within is
  where
    by : (b : Bool) → p y ≡ b → (Contains ys x → find p ys ≡ Some x) → (k : ℕ) → k < length (y ∷ ys) → get_or (y ∷ ys) k x ≡ x →
        cond b (Some y) (find p ys) ≡ Some x
    by true first rest zero within is = ap Some is
    by true first rest (suc k) within is = absurd (apart 0 (suc k) x (omega arith) within first (ap p is ∙ passes))
    by false first rest zero within is = absurd (false≢true (sym first ∙ (ap p is ∙ passes)))
    by false first rest (suc k) within is = rest (k, omega arith, is)

-- a relation between any two elements of two lists holds of one of the first and one of the second
pub across : {X : Type 0} (R : X → X → Type 0) (xs ys : List X) → AllPairs R (xs ++ ys) → (i j : ℕ) (x y : X) → slice_get xs i ≡ Some x →
    slice_get ys j ≡ Some y → R x y
across {X = X} R xs ys pairs i j x y at_i at_j =
    let left = slice_get-append_left xs ys i x at_i in
    let right = slice_get-append_right xs ys j y at_j in
    let within = slice_get_within xs i x at_i in
    let inside = slice_get_within (xs ++ ys) (length xs + j) y right in
    let both : R (get_or (xs ++ ys) i x) (get_or (xs ++ ys) (length xs + j) x) = pairs i (length xs + j) x (omega (arith, within)) inside in
    at_both (get_or_from_slice_get (xs ++ ys) i x x left) (get_or_from_slice_get (xs ++ ys) (length xs + j) y x right) both
  where
    at_both : {a b : X} → a ≡ x → b ≡ y → R a b → R x y
    at_both e f h = subst₂ R e f h
