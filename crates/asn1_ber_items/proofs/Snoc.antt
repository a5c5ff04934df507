-- The last element of a list.
use Rattle.std.proofs.Common.{◌≡◌, ◌⊎◌, inl, inr, List, [], ◌∷◌, ◌++◌, length, length-append, take, drop, refl, ap, sym, ◌∙◌, arith}
use Rattle.std.proofs.Math.Seq.{drop-append_seam, take-append_seam}

-- A list that is not empty has a last element.
pub record IsSnoc {A : Type 0} (es : List A) : Type 0 where
  pub outer : List A
  pub innermost : A
  pub are : es ≡ outer ++ innermost ∷ []

pub view : {A : Type 0} (es : List A) → (es ≡ []) ⊎ IsSnoc es
view [] = inl refl
view {A = A} (e ∷ es) = inr (by es (view es))
  where
    by : (es : List A) → (es ≡ []) ⊎ IsSnoc es → IsSnoc (e ∷ es)
    by es (inl none) = record { outer = []; innermost = e; are = ap (λ l. e ∷ l) none }
    by es (inr s) = record { outer = e ∷ s.outer; innermost = s.innermost; are = ap (λ l. e ∷ l) s.are }

-- it has one such element
pub record IsSameLast {A : Type 0} (xs ys : List A) (a b : A) : Type 0 where
  pub front : xs ≡ ys
  pub last : a ≡ b

head_is : {A : Type 0} {a b : A} → a ∷ [] ≡ b ∷ [] → a ≡ b
head_is e = cc

pub same_last : {A : Type 0} (xs ys : List A) (a b : A) → xs ++ a ∷ [] ≡ ys ++ b ∷ [] → IsSameLast xs ys a b
same_last xs ys a b e =
    let long : length xs ≡ length ys = omega (arith, ap length e, length-append xs (a ∷ []), length-append ys (b ∷ [])) in
    record {
      front = sym (take-append_seam xs (a ∷ [])) ∙ ap (take (length xs)) e ∙ ap (λ n. take n (ys ++ b ∷ [])) long ∙ take-append_seam ys (b ∷ []);
      last = head_is (sym (drop-append_seam xs (a ∷ [])) ∙ ap (drop (length xs)) e ∙ ap (λ n. drop n (ys ++ b ∷ [])) long ∙ drop-append_seam ys (b ∷ []));
    }
