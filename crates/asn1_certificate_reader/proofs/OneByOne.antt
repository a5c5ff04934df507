-- Lists with a relation between their items, one by one.
use mathlib.Core.List.{reverse_aux}
use Rattle.std.proofs.Common.{◌≡◌, ◌∙◌, ◌<◌, ◌≤◌, ◌+◌, ℕ, List, [], ◌∷◌, ◌++◌, ap, get_or, length, reverse, subst, sym, take}
use Rattle.std.proofs.lemmas.List.{take_all, take_more}
use Rattle.std.proofs.lemmas.Slice.Zip.{all_zipped_more}
use Rattle.std.specs.List.{AllZip}

-- the next item of the list that a loop builds
pub one_more : {A B : Type 0} (R : A → B → Type 0) (xs : List A) (ys zs : List B) (i : ℕ) (x : A) (y : B) → i < length xs → x ≡ get_or xs i x →
    zs ≡ ys ++ (y ∷ []) → AllZip R (take i xs) ys → R x y → AllZip R (take (i + 1) xs) zs
one_more R xs ys zs i x y below is pushed all here =
    let more = take_more xs i x below ∙ ap (λ z. take i xs ++ (z ∷ [])) (sym is) in
    subst (λ l. AllZip R l zs) (sym more)
    (subst (λ l. AllZip R (take i xs ++ (x ∷ [])) l) (sym pushed) (all_zipped_more R (take i xs) ys x y all here))

-- the list that a loop has built at its end
pub all_seen : {A B : Type 0} (R : A → B → Type 0) (xs : List A) (ys : List B) (i : ℕ) → length xs ≤ i → AllZip R (take i xs) ys → AllZip R xs ys
all_seen R xs ys i at_end all = subst (λ l. AllZip R l ys) (take_all i xs at_end) all

-- the lists from the last item to the first, before lists that are so already
reversed_before : {A B : Type 0} (R : A → B → Type 0) (xs rest : List A) (ys more : List B) → AllZip R xs ys → AllZip R rest more → AllZip R (reverse_aux xs rest) (reverse_aux ys more)
reversed_before R [] rest [] more all before = before
reversed_before R [] rest (y ∷ ys) more all before = absurd all
reversed_before R (x ∷ xs) rest [] more all before = absurd all
reversed_before R (x ∷ xs) rest (y ∷ ys) more all before = reversed_before R xs (x ∷ rest) ys (y ∷ more) all.1 (all.0, before)

-- the lists from the last item to the first
pub reversed : {A B : Type 0} (R : A → B → Type 0) (xs : List A) (ys : List B) → AllZip R xs ys → AllZip R (reverse xs) (reverse ys)
reversed R xs ys all = reversed_before R xs [] ys [] all tt
