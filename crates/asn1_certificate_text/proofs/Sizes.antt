-- How many bits a number has.
use Rattle.std.proofs.Common.{◌≡◌, ℕ, zero, suc, ◌+◌, ◌-◌, ◌*◌, ◌^◌, ◌<◌, ◌≤◌, List, [], ◌∷◌, length, take, drop, get_or, Fits, w8, refl, sym, ap, ◌∙◌, arith, length-take}
use Rattle.std.specs.Int.Digits.{AllBelowBase, number_from_digits_after}
use Rattle.std.proofs.lemmas.Int.Digits.{number_after_lt}
use Rattle.std.proofs.lemmas.Nat.{leading_top, mul-le, pow-add}
use Rattle.std.proofs.Math.Nat.{pow-suc}
use Rattle.asn1_values.specs.Numbers.{IsShortest, magnitude}
use Rattle.asn1_certificate_text.specs.Bits.{IsBitLength}
use lib.Count.{count_leading_zeros}

-- the weight of a first digit
first_worth : (n : ℕ) (ds : List ℕ) → n * 256 ^ length ds ≤ number_from_digits_after 256 n ds
first_worth n [] = omega arith
first_worth n (d ∷ ds) = rw pow-suc (omega (arith, first_worth (n * 256 + d) ds))

-- eight bits an octet
octet_bits : (k : ℕ) → 2 ^ (k * 8) ≡ 256 ^ k
octet_bits zero = refl
octet_bits (suc k) =
    let split : 2 ^ (k * 8 + 8) ≡ 2 ^ (k * 8) * 2 ^ 8 = pow-add 2 (k * 8) 8 in
    let same : suc k * 8 ≡ k * 8 + 8 = omega arith in
    rw (same, split, octet_bits k) (sym (pow-suc 256 k))

-- how many bits of the first octet are used
bits_of_octets : (first : ℕ) (rest : List ℕ) → 0 < first → first < 256 → AllBelowBase 256 rest →
    IsBitLength (magnitude (first ∷ rest)) (length rest * 8 + (8 - count_leading_zeros 8 first))
bits_of_octets first rest some octet below =
    let (j, top, least, most) = leading_top 8 first some octet in
    let front : 0 + first ≡ first = omega arith in
    let all_of : magnitude (first ∷ rest) ≡ number_from_digits_after 256 first rest = ap (λ n. number_from_digits_after 256 n rest) front in
    let upper : number_from_digits_after 256 first rest < (first + 1) * 256 ^ length rest = number_after_lt 256 first rest below in
    let lower : first * 256 ^ length rest ≤ number_from_digits_after 256 first rest = first_worth first rest in
    let count : length rest * 8 + (8 - count_leading_zeros 8 first) ≡ suc j + length rest * 8 = omega arith in
    let all : 2 ^ (suc j + length rest * 8) ≡ 2 ^ suc j * 256 ^ length rest = pow-add 2 (suc j) (length rest * 8) ∙ ap (λ p. 2 ^ suc j * p) (octet_bits (length rest)) in
    let half : 2 ^ (j + length rest * 8) ≡ 2 ^ j * 256 ^ length rest = pow-add 2 j (length rest * 8) ∙ ap (λ p. 2 ^ j * p) (octet_bits (length rest)) in
    let most_of : (first + 1) * 256 ^ length rest ≤ 2 ^ suc j * 256 ^ length rest = mul-le (first + 1) (256 ^ length rest) (2 ^ suc j) (256 ^ length rest) (omega arith) (omega arith) in
    let least_of : 2 ^ j * 256 ^ length rest ≤ first * 256 ^ length rest = mul-le (2 ^ j) (256 ^ length rest) first (256 ^ length rest) least (omega arith) in
    let less : suc j + length rest * 8 - 1 ≡ j + length rest * 8 = omega arith in
    rw count record {
      below = rw all (omega arith);
      least = λ _. rw (less, half) (omega arith);
    }

-- octets are below 256
are_octets : (octets : List ℕ) → ((i : ℕ) → Fits w8 (get_or octets i 0)) → AllBelowBase 256 octets
are_octets [] fits = tt
are_octets (octet ∷ octets) fits = (omega (arith, fits 0), are_octets octets (λ i. fits (suc i)))

-- the same of octets that are cut into the first and the others
pub bits_of_cut : (octets : List ℕ) → ((i : ℕ) → Fits w8 (get_or octets i 0)) → IsShortest octets → 1 ≤ length octets →
    IsBitLength (magnitude octets)
    (length (take (length octets - 1) (drop 1 octets)) * 8 + (8 - count_leading_zeros 8 (get_or octets 0 0)))
bits_of_cut [] fits shortest some = absurd (omega arith)
bits_of_cut (zero ∷ rest) fits shortest some = absurd (shortest refl)
bits_of_cut (suc first ∷ rest) fits shortest some =
    let count : length (take (length (suc first ∷ rest) - 1) rest) ≡ length rest = simp length-take (omega arith) in
    rw count (bits_of_octets (suc first) rest (omega arith) (omega (arith, fits 0)) (are_octets rest (λ i. fits (suc i))))
