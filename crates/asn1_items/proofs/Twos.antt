-- Numbers of two bytes each, read one after another.
use Rattle.std.proofs.Common.{◌≡◌, ℕ, zero, suc, true, ◌≤◌, ◌<◌, ◌^◌, List, [], ◌∷◌, ◌++◌, length, get_or, drop, refl, sym, ap, subst, ◌∙◌, arith, append_assoc, append-nil}
use Rattle.std.proofs.lemmas.Bool.{eqb-true}
use Rattle.std.proofs.lemmas.Grind.{flat_map-append}
use Rattle.std.proofs.lemmas.Nat.{be_bytes_2, from_be_bytes-to_be_bytes_2}
use Rattle.std.proofs.lemmas.List.Elements.{All-append, All-cons, All-head, All-nil, All-tail}
use Rattle.std.specs.Int.{w16, from_be_bytes}
use Rattle.std.specs.List.{flat_map}
use Rattle.std.specs.Prelude.{All, ◌==◌}
use Rattle.asn1_items.specs.Numbers.{AreTwos, two_bytes}

-- Some of the numbers were read, and the bytes of the others are left.
pub record NumbersRead (numbers left list : List ℕ) : Type 0 where
  pub rest : List ℕ
  pub are : list ≡ numbers ++ rest
  pub left_are : AreTwos rest left

-- the same of whatever numbers the bytes are
abbrev pub ReadsNumbers : List ℕ → List ℕ → List ℕ → Type 0
ReadsNumbers bytes numbers left = (list : List ℕ) → AreTwos list bytes → NumbersRead numbers left list

pub starts : (bytes numbers : List ℕ) → numbers ≡ [] → ReadsNumbers bytes numbers bytes
starts bytes numbers none list are = record { rest = list; are = ap (λ l. l ++ list) (sym none); left_are = are }

-- one more
pub step : (numbers left list rest items : List ℕ) (n : ℕ) → items ≡ numbers ++ n ∷ [] → 2 ≤ length left → rest ≡ drop 2 left → n ≡ from_be_bytes w16 (get_or left 0 0 ∷ get_or left 1 0 ∷ []) → NumbersRead numbers left list → NumbersRead items rest list
step numbers left list rest items n items_are long rest_is is m = by m.rest m.are m.left_are
  where
    by : (more : List ℕ) → list ≡ numbers ++ more → AreTwos more left → NumbersRead items rest list
    by [] are left_are = absurd (omega (arith, ap length left_are.are))
    by (x ∷ more) are left_are =
        let first : x ≡ n = sym (from_be_bytes-to_be_bytes_2 x (All-head (λ n. n < 2 ^ 16) x more left_are.fit)) ∙ ap (λ l. from_be_bytes w16 (get_or l 0 0 ∷ get_or l 1 0 ∷ [])) (sym left_are.are) ∙ sym is in
        record {
          rest = more;
          are = are ∙ ap (λ y. numbers ++ y ∷ more) first ∙ sym (append_assoc numbers (n ∷ []) more) ∙ ap (λ i. i ++ more) (sym items_are);
          left_are = record { are = rest_is ∙ ap (drop 2) left_are.are; fit = All-tail (λ n. n < 2 ^ 16) x more left_are.fit };
        }

-- all was read
pub none_left : (numbers left list : List ℕ) → length left < 2 → NumbersRead numbers left list → (left ≡ []) × (numbers ≡ list)
none_left numbers left list short m = by m.rest m.are m.left_are
  where
    by : (more : List ℕ) → list ≡ numbers ++ more → AreTwos more left → (left ≡ []) × (numbers ≡ list)
    by [] are left_are = (left_are.are, sym (are ∙ append-nil numbers))
    by (x ∷ more) are left_are = absurd (omega (arith, ap length left_are.are))

-- each of the bytes is below 256, so each of the first and each of the others is
low_first : (a b : ℕ) (left : List ℕ) → ((i : ℕ) → get_or (a ∷ b ∷ left) i 0 < 256) → (i : ℕ) → get_or (a ∷ b ∷ []) i 0 < 256
low_first a b left low zero = low 0
low_first a b left low (suc zero) = low 1
low_first a b left low (suc (suc i)) = omega arith

low_left : (front left : List ℕ) → ((i : ℕ) → get_or (front ++ left) i 0 < 256) → (i : ℕ) → get_or left i 0 < 256
low_left [] left low i = low i
low_left (x ∷ front) left low i = low_left front left (λ k. low (suc k)) i

-- The bytes are those of the numbers that were read, and those that are left.
pub record AreOf (bytes numbers left : List ℕ) : Type 0 where
  pub are : bytes ≡ flat_map (λ n. two_bytes n) numbers ++ left
  pub fit : All (λ n. n < 2 ^ 16) numbers

pub none_of : (bytes numbers : List ℕ) → numbers ≡ [] → AreOf bytes numbers bytes
none_of bytes [] is = record { are = refl; fit = All-nil (λ n. n < 2 ^ 16) }
none_of bytes (n ∷ numbers) is = cc

-- one more
pub one_of : (bytes numbers left rest items : List ℕ) (n : ℕ) → items ≡ numbers ++ n ∷ [] → 2 ≤ length left → rest ≡ drop 2 left → n < 2 ^ 16 → ((i : ℕ) → get_or bytes i 0 < 256) →
    n ≡ from_be_bytes w16 (get_or left 0 0 ∷ get_or left 1 0 ∷ []) → AreOf bytes numbers left → AreOf bytes items rest
one_of bytes numbers (a ∷ b ∷ left) rest items n items_are long rest_is fits low is of =
    let own : two_bytes n ≡ a ∷ b ∷ [] = be_bytes_2 (a ∷ b ∷ []) n refl (low_first a b left (low_left (flat_map (λ n. two_bytes n) numbers) (a ∷ b ∷ left) (λ i. subst (λ l. get_or l i 0 < 256) of.are (low i)))) is in
    let all : flat_map (λ n. two_bytes n) items ≡ flat_map (λ n. two_bytes n) numbers ++ a ∷ b ∷ [] =
    ap (flat_map (λ n. two_bytes n)) items_are ∙ flat_map-append (λ n. two_bytes n) numbers (n ∷ []) ∙ ap (λ l. flat_map (λ n. two_bytes n) numbers ++ l) (append-nil (two_bytes n) ∙ own) in
    record {
      are = of.are ∙ sym (append_assoc (flat_map (λ n. two_bytes n) numbers) (a ∷ b ∷ []) left) ∙ ap (λ l. l ++ left) (sym all) ∙ ap (λ l. flat_map (λ n. two_bytes n) items ++ l) (sym rest_is);
      fit = subst (All (λ n. n < 2 ^ 16)) (sym items_are) (All-append (λ n. n < 2 ^ 16) numbers (n ∷ []) of.fit (All-cons (λ n. n < 2 ^ 16) n [] fits (All-nil (λ n. n < 2 ^ 16))));
    }
one_of bytes numbers _ rest items n items_are long rest_is fits low is of = absurd (omega arith)

-- all
pub all_of : (bytes numbers left : List ℕ) → left ≡ [] → AreOf bytes numbers left → AreTwos numbers bytes
all_of bytes numbers left none of = record { are = of.are ∙ ap (λ l. flat_map (λ n. two_bytes n) numbers ++ l) none ∙ append-nil (flat_map (λ n. two_bytes n) numbers); fit = of.fit }

-- nothing is left of a list that is empty
pub empty_is : (left : List ℕ) → (length left == 0) ≡ true → left ≡ []
empty_is [] e = refl
empty_is (x ∷ left) e = absurd (omega (arith, eqb-true (length (x ∷ left)) 0 e))
