-- Lists apart from their order: the same elements, each as often.
use Rattle.std.specs.Prelude.{◌≡◌, ℕ, Bool, true, ◌&&◌, ◌==◌, nat_lt, List, IsPermutation, length}
use Rattle.std.specs.List.{list_all, count_by}
use Rattle.std.specs.Cmp.Lexicographic.{pointwise}

-- Some rearrangement of the second list is element by element equal to the first, by this equality.
pub record SameElements {T : Type 0} (eq : T → T → Bool) (xs ys : List T) : Type 0 where
  pub order : List T
  pub rearranged : IsPermutation order ys
  pub equal : pointwise eq xs order ≡ true

-- to how many elements of the list x is equal
abbrev pub count_of : {T : Type 0} → (T → T → Bool) → T → List T → ℕ
count_of eq x ys = count_by (λ y. eq x y) ys

-- whether x is in both lists, as often in the one as in the other
abbrev pub occurs_as_often : {T : Type 0} → (T → T → Bool) → List T → List T → T → Bool
occurs_as_often eq xs ys x = nat_lt 0 (count_of eq x xs) && (count_of eq x xs == count_of eq x ys)

-- Whether the lists are as long, and each element of the first is as often in the second. For a lawful equality that
-- is whether they have the same elements (specs/MultisetLaws).
abbrev pub same_counts : {T : Type 0} → (T → T → Bool) → List T → List T → Bool
same_counts eq xs ys = (length xs == length ys) && list_all (occurs_as_often eq xs ys) xs
