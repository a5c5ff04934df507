-- The numbers of an ENUMERATED type are found in its table.
use Rattle.std.proofs.Common.{◌≡◌, ℕ, zero, suc, ◌<◌, Bool, true, false, cond, ℤ, Some, None, List, [], ◌∷◌, Contains, length, get_or, ◌∙◌, ap, arith}
use Rattle.std.specs.Cmp.{int_eq_equiv}
use Rattle.std.specs.List.{find}
use Rattle.std.specs.Option.{option_map}
use Rattle.std.specs.Ordering.{int_eq}
use Rattle.asn1_model.specs.RecordTables.{Label}
use Rattle.asn1_components.specs.Labels.{numbers_in}

-- a number of the table has an item
pub has_item : (ls : List Label) (z : ℤ) → Contains (numbers_in ls) z → None ≡ option_map (λ (l : Label). l.name) (find (λ l. int_eq l.number z) ls) → ⊥
has_item [] z (k, within, is) none = omega (arith, within)
has_item (l ∷ ls) z (k, within, is) none = by (int_eq l.number z) (λ same. ap (λ n. int_eq n z) same ∙ int_eq_equiv.refl z) (has_item ls z) k within is none
  where
    by : (b : Bool) → (l.number ≡ z → b ≡ true) → (Contains (numbers_in ls) z → None ≡ option_map (λ (l : Label). l.name) (find (λ l. int_eq l.number z) ls) → ⊥) →
        (k : ℕ) → k < length (numbers_in (l ∷ ls)) → get_or (numbers_in (l ∷ ls)) k z ≡ z →
        None ≡ option_map (λ (l : Label). l.name) (cond b (Some l) (find (λ l. int_eq l.number z) ls)) → ⊥
    by true same rest k within is none = cc
    by false same rest zero within is none = let wrong = same is in cc
    by false same rest (suc k) within is none = rest (k, omega arith, is) none

-- and so has a number that is the same
pub same_has_item : (ls : List Label) (y z : ℤ) → Contains (numbers_in ls) z → None ≡ option_map (λ (l : Label). l.name) (find (λ l. int_eq l.number y) ls) → y ≡ z → ⊥
same_has_item ls y z there none same = has_item ls z there (none ∙ ap (λ n. option_map (λ (l : Label). l.name) (find (λ l. int_eq l.number n) ls)) same)
