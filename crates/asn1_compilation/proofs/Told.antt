-- Problems in the order of their places, and their messages.
use Rattle.std.proofs.Common.{◌≡◌, ℕ, ◌+◌, ◌<◌, Bool, List, [], ◌∷◌, ◌++◌, length, get_or, map, take, sym, subst, ◌∙◌, arith}
use Rattle.std.specs.Borrow.{Bor}
use Rattle.std.specs.List.{AllZip}
use Rattle.std.specs.List.Sorted.{IsSortedBy}
use Rattle.std.proofs.lemmas.List.{get_or-map, length-map, map_more}
use Rattle.asn1_resolved.specs.declared.problem.Problem.{Problem}
use Rattle.asn1_compilation.specs.Messages.{IsMessageOf}
use Rattle.asn1_compilation.specs.declared.message.Message.{Message}

zip_push : {A B : Type 0} (R : A → B → Type 0) (xs : List A) (ys : List B) (x : A) (y : B) → AllZip R xs ys → R x y → AllZip R (xs ++ x ∷ []) (ys ++ y ∷ [])
zip_push R [] [] x y all one = (one, tt)
zip_push R [] (b ∷ ys) x y all one = absurd all
zip_push R (a ∷ xs) [] x y all one = absurd all
zip_push R (a ∷ xs) (b ∷ ys) x y all one = (all.0, zip_push R xs ys x y all.1 one)

-- one more message
pub told_more : (ps : List (Bor Problem)) (i : ℕ) (d : Bor Problem) (ms : List Message) (m : Message) → i < length ps →
    AllZip IsMessageOf (map (λ p. p.now) (take i ps)) ms → IsMessageOf (get_or ps i d).now m →
    AllZip IsMessageOf (map (λ p. p.now) (take (i + 1) ps)) (ms ++ m ∷ [])
told_more ps i d ms m within told is =
    subst (λ xs. AllZip IsMessageOf xs (ms ++ m ∷ [])) (sym (map_more (λ p. p.now) ps i d within))
    (zip_push IsMessageOf (map (λ p. p.now) (take i ps)) ms (get_or ps i d).now m told is)

-- what is sorted by a part is sorted as these parts
pub sorted_map : {X Y : Type 0} (f : X → Y) (lt : Y → Y → Bool) (xs : List X) → IsSortedBy (λ a b. lt (f a) (f b)) xs → IsSortedBy lt (map f xs)
sorted_map f lt [] sorted k e low within = absurd (omega (arith, within))
sorted_map f lt (x ∷ xs) sorted k e low within =
    let inside : k + 1 < length (x ∷ xs) = omega (arith, within, length-map (x ∷ xs) f) in
    let first : get_or (map f (x ∷ xs)) k e ≡ f (get_or (x ∷ xs) k x) = get_or-map f (x ∷ xs) k x e (omega arith) in
    let second : get_or (map f (x ∷ xs)) (k + 1) e ≡ f (get_or (x ∷ xs) (k + 1) x) = get_or-map f (x ∷ xs) (k + 1) x e inside in
    (λ i. lt (second i) (first i)) ∙ sorted k x low inside
