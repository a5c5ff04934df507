-- The last bits of an octet become 0.
use Rattle.std.proofs.Common.{◌≡◌, ℕ, ◌+◌, ◌*◌, ◌-◌, ◌/◌, Bool, false, [], ◌∷◌, ◌++◌, take, ap, arith}
use Rattle.std.specs.Prelude.{◌==◌, replicate}
use Rattle.asn1_strings.specs.Bits.{bits_of_octet}

-- a number that is 0 or 1 with another is it
same_bit : (m n : ℕ) → m ≡ n → (m == 1) ≡ (n == 1)
same_bit m n is = ap (λ k. k == 1) is

no_bit : (m : ℕ) → m ≡ 0 → (m == 1) ≡ false
no_bit m is = ap (λ k. k == 1) is

-- two octets of the same bits
eight : {a b c d e f g h i j k l m n o p : Bool} → a ≡ i → b ≡ j → c ≡ k → d ≡ l → e ≡ m → f ≡ n → g ≡ o → h ≡ p →
    a ∷ b ∷ c ∷ d ∷ e ∷ f ∷ g ∷ h ∷ [] ≡ i ∷ j ∷ k ∷ l ∷ m ∷ n ∷ o ∷ p ∷ []
eight q r s t u v w x = rw (q, r, s, t, u, v, w, x)

pub but_one : (o : ℕ) → bits_of_octet (o / 2 * 2) ≡ take 7 (bits_of_octet o) ++ replicate 1 false
but_one o = eight (same_bit _ _ (omega arith)) (same_bit _ _ (omega arith)) (same_bit _ _ (omega arith)) (same_bit _ _ (omega arith))
    (same_bit _ _ (omega arith)) (same_bit _ _ (omega arith)) (same_bit _ _ (omega arith)) (no_bit _ (omega arith))

pub but_two : (o : ℕ) → bits_of_octet (o / 4 * 4) ≡ take 6 (bits_of_octet o) ++ replicate 2 false
but_two o = eight (same_bit _ _ (omega arith)) (same_bit _ _ (omega arith)) (same_bit _ _ (omega arith)) (same_bit _ _ (omega arith))
    (same_bit _ _ (omega arith)) (same_bit _ _ (omega arith)) (no_bit _ (omega arith)) (no_bit _ (omega arith))

pub but_three : (o : ℕ) → bits_of_octet (o / 8 * 8) ≡ take 5 (bits_of_octet o) ++ replicate 3 false
but_three o = eight (same_bit _ _ (omega arith)) (same_bit _ _ (omega arith)) (same_bit _ _ (omega arith)) (same_bit _ _ (omega arith))
    (same_bit _ _ (omega arith)) (no_bit _ (omega arith)) (no_bit _ (omega arith)) (no_bit _ (omega arith))

pub but_four : (o : ℕ) → bits_of_octet (o / 16 * 16) ≡ take 4 (bits_of_octet o) ++ replicate 4 false
but_four o = eight (same_bit _ _ (omega arith)) (same_bit _ _ (omega arith)) (same_bit _ _ (omega arith)) (same_bit _ _ (omega arith))
    (no_bit _ (omega arith)) (no_bit _ (omega arith)) (no_bit _ (omega arith)) (no_bit _ (omega arith))

pub but_five : (o : ℕ) → bits_of_octet (o / 32 * 32) ≡ take 3 (bits_of_octet o) ++ replicate 5 false
but_five o = eight (same_bit _ _ (omega arith)) (same_bit _ _ (omega arith)) (same_bit _ _ (omega arith)) (no_bit _ (omega arith))
    (no_bit _ (omega arith)) (no_bit _ (omega arith)) (no_bit _ (omega arith)) (no_bit _ (omega arith))

pub but_six : (o : ℕ) → bits_of_octet (o / 64 * 64) ≡ take 2 (bits_of_octet o) ++ replicate 6 false
but_six o = eight (same_bit _ _ (omega arith)) (same_bit _ _ (omega arith)) (no_bit _ (omega arith)) (no_bit _ (omega arith))
    (no_bit _ (omega arith)) (no_bit _ (omega arith)) (no_bit _ (omega arith)) (no_bit _ (omega arith))

pub but_seven : (o : ℕ) → bits_of_octet (o / 128 * 128) ≡ take 1 (bits_of_octet o) ++ replicate 7 false
but_seven o = eight (same_bit _ _ (omega arith)) (no_bit _ (omega arith)) (no_bit _ (omega arith)) (no_bit _ (omega arith))
    (no_bit _ (omega arith)) (no_bit _ (omega arith)) (no_bit _ (omega arith)) (no_bit _ (omega arith))
