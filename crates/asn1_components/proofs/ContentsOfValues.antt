-- For types that hold themselves: what holds of all that is collected from a value and from those inside it.
use Rattle.std.specs.Prelude.{◌↔◌, ⊤, All, List, [], ◌∷◌, ◌++◌}
use Rattle.std.specs.List.{flat_map}
use Rattle.std.proofs.lemmas.List.Elements.{All-nil, All-cons, All-head, All-tail, All-append}

module _ {Y : Type 0} (P : Y → Type 0) where
  both_parts : (xs ys : List Y) → All P (xs ++ ys) → All P xs × All P ys
  both_parts [] ys h = (All-nil P, h)
  both_parts (x ∷ xs) ys h =
      let rest = both_parts xs ys (All-tail P x (xs ++ ys) h) in
      (All-cons P x xs (All-head P x (xs ++ ys) h) rest.0, rest.1)

  to_each : {X : Type 0} (f : X → List Y) (xs : List X) → All P (flat_map f xs) → All (λ x. All P (f x)) xs
  to_each f [] h = All-nil (λ x. All P (f x))
  to_each f (x ∷ xs) h =
      let parts = both_parts (f x) (flat_map f xs) h in
      All-cons (λ x. All P (f x)) x xs parts.0 (to_each f xs parts.1)

  from_each : {X : Type 0} (f : X → List Y) (xs : List X) → All (λ x. All P (f x)) xs → All P (flat_map f xs)
  from_each f [] h = All-nil P
  from_each f (x ∷ xs) h = All-append P (f x) (flat_map f xs) (All-head (λ x. All P (f x)) x xs h) (from_each f xs (All-tail (λ x. All P (f x)) x xs h))

  -- of a value's own, and of what is collected from each inside
  pub all_own_and_inside : {X : Type 0} (own : Y) (f : X → List Y) (xs : List X) → All P (own ∷ flat_map f xs) ↔ (P own × (All (λ x. All P (f x)) xs × ⊤))
  all_own_and_inside own f xs = (
    λ h. (All-head P own (flat_map f xs) h, (to_each f xs (All-tail P own (flat_map f xs) h), tt)),
    λ h. All-cons P own (flat_map f xs) h.0 (from_each f xs h.1.0),
  )
