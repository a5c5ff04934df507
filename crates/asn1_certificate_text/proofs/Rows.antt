-- The rows of a table, by a function of each.
use Rattle.std.proofs.Common.{◌≡◌, ◌≢◌, ◌<◌, ◌≤◌, All, Contains, List, ap, get_or, length, map, subst, take, ℕ, ◌∙◌, arith}
use Rattle.std.proofs.lemmas.List.{get_or-map, length-map, take_all}
use Rattle.std.proofs.lemmas.List.Elements.{All-map}

-- the image of a row is among the images of all
pub Contains-row : {X Y : Type 0} (f : X → Y) (rows : List X) (i : ℕ) (d : X) (y : Y) → i < length rows → f (get_or rows i d) ≡ y → Contains (map f rows) y
Contains-row f rows i d y lt is = (i, omega (arith, length-map rows f), get_or-map f rows i d y lt ∙ is)

-- no row is left, and none was found: what was looked for is read of none
pub found_nowhere : {X Y : Type 0} (f : X → Y) (rows : List X) (i : ℕ) (y : Y) → length rows ≤ i → All (λ row. f row ≢ y) (take i rows) → ¬ Contains (map f rows) y
found_nowhere f rows i y le none =
    let all = All-map (λ read. read ≢ y) f rows (subst (λ some. All (λ row. f row ≢ y) some) (take_all i rows le) none) in
    λ (k, lt, at). all k y lt at

-- a pair and a triple, of which the first parts are equal
pub same_pair : {A B : Type 0} (a b : A) (x : B) → a ≡ b → let pair : A → A × B = λ c. (c, x) in pair a ≡ pair b
same_pair {A} {B} a b x is = let pair : A → A × B = λ c. (c, x) in ap pair is

pub same_triple : {A B C : Type 0} (a b : A) (x : B) (y : C) → a ≡ b → let triple : A → A × B × C = λ c. (c, x, y) in triple a ≡ triple b
same_triple {A} {B} {C} a b x y is = let triple : A → A × B × C = λ c. (c, x, y) in ap triple is
