-- The laws of permitted alphabets: what two of them have in common, and that this associates.
use Rattle.std.proofs.Common.{◌≡◌, ◌↔◌, ◌∙◌, sym, ap, ℕ, Bool, true, false, cond, ◌&&◌, List, [], ◌∷◌, nat_eq, refl}
use Rattle.std.proofs.Math.Bool.{and_comm}
use Rattle.std.specs.Cmp.{nat_eq_equiv}
use Rattle.std.specs.List.{filter, list_any}
use Rattle.std.proofs.lemmas.Bool.{eqb-true}
use Rattle.std.proofs.lemmas.Map.Views.{Contains-from_any, list_any-from_Contains, any-filter_same}
use Rattle.asn1_bounds.specs.Admitted.{IsPermitted, is_permitted, common_characters}

-- the test goes by equality with its sides exchanged
is_permitted-exchanged : (alphabet : List ℕ) (character : ℕ) → is_permitted alphabet character ≡ list_any (nat_eq character) alphabet
is_permitted-exchanged [] character = refl
is_permitted-exchanged (c ∷ cs) character = rw (nat_eq_equiv.symm c character, is_permitted-exchanged cs character) refl

-- the test decides whether the character is permitted
pub is_permitted-iff : (alphabet : List ℕ) (character : ℕ) → (is_permitted alphabet character ≡ true) ↔ IsPermitted alphabet character
is_permitted-iff alphabet character = (
  λ h. Contains-from_any eqb-true character alphabet (sym (is_permitted-exchanged alphabet character) ∙ h),
  λ h. is_permitted-exchanged alphabet character ∙ list_any-from_Contains nat_eq_equiv character alphabet h,
)

-- the common characters permit a character if and only if both alphabets do
pub common_characters-test : (a b : List ℕ) (character : ℕ) → is_permitted (common_characters a b) character ≡ (is_permitted a character && is_permitted b character)
common_characters-test a b character =
    any-filter_same (λ c. nat_eq c character) (is_permitted b) (is_permitted b character) (λ c e. ap (is_permitted b) (eqb-true c character e)) a
    ∙ and_comm (is_permitted b character) (is_permitted a character)

both_true : (a b : Bool) → ((a && b) ≡ true) ↔ ((a ≡ true) × (b ≡ true))
both_true true b = (λ h. (refl, h), λ h. h.1)
both_true false b = (λ h. absurd (cc), λ h. h.0)

pub common_characters-members : (a b : List ℕ) (character : ℕ) → IsPermitted (common_characters a b) character ↔ (IsPermitted a character × IsPermitted b character)
common_characters-members a b character =
    let left = is_permitted-iff a character in
    let right = is_permitted-iff b character in
    let common = is_permitted-iff (common_characters a b) character in
    let tests = both_true (is_permitted a character) (is_permitted b character) in
    let same = common_characters-test a b character in (
      λ h. let each = tests.0 (sym same ∙ common.1 h) in (left.0 each.0, right.0 each.1),
      λ h. common.0 (same ∙ tests.1 (left.1 h.0, right.1 h.1)),
    )

-- one filter after another is the filter by both tests
filter-both : (p q r : ℕ → Bool) → ((x : ℕ) → r x ≡ (q x && p x)) → (xs : List ℕ) → filter p (filter q xs) ≡ filter r xs
filter-both p q r same [] = refl
filter-both p q r same (x ∷ xs) =
    let rest = filter-both p q r same xs in
    rw (same x) (elim (q x) as (λ t. filter p (cond t (x ∷ filter q xs) (filter q xs)) ≡ cond (t && p x) (x ∷ filter r xs) (filter r xs)) [
      | true ↦ ap (λ ys. cond (p x) (x ∷ ys) ys) rest
      | false ↦ rest
    ])

pub common_characters-assoc : (a b c : List ℕ) → common_characters (common_characters a b) c ≡ common_characters a (common_characters b c)
common_characters-assoc a b c =
    filter-both (is_permitted c) (is_permitted b) (is_permitted (common_characters b c)) (common_characters-test b c) a
